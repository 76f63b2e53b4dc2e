-- The rule, and the faults that break it.
use Rattle.std.proofs.Common.{◌≡◌, ℕ, ◌≤◌, Bool, true, false, List, [], ◌∷◌, length, Option, None, Some, refl, ◌∙◌, arith}
use Rattle.std.specs.Prelude.{◌&&◌, not, nat_le, nat_lt, if◌then◌else◌}
use Rattle.std.specs.List.{list_all, list_any}
use Rattle.std.proofs.lemmas.Bool.{and_parts, le-leb, or_parts}
use Rattle.std.proofs.lemmas.Bool.Decides.{nat_tests}
use Rattle.mc_key.specs.declared.fault.KeyFault.{KeyFault}
use Rattle.mc_key.specs.declared.fault.KeyFault.TheVariants.{Empty, NoSlash, TooLong, EmptySegment, DotSegment}
use Rattle.mc_key.specs.KeyRule.{begins, is_dots, is_empty, is_key, key_fault, parts, segments, segments_fault}

-- whether a segment is as the rule wants
abbrev is_good : List ℕ → Bool
is_good segment = not (is_empty segment) && not (is_dots segment)

-- no segment is bad exactly where all are good

all_good : (list : List (List ℕ)) → list_any is_empty list ≡ false → list_any is_dots list ≡ false → list_all is_good list ≡ true
all_good [] e d = refl
all_good (segment ∷ list) e d =
    let he = or_parts (is_empty segment) (list_any is_empty list) e in
    let hd = or_parts (is_dots segment) (list_any is_dots list) d in
    rw (he.0, hd.0, all_good list he.1 hd.1) refl

none_bad : (list : List (List ℕ)) → list_all is_good list ≡ true → (list_any is_empty list ≡ false) × (list_any is_dots list ≡ false)
none_bad [] h = (refl, refl)
none_bad (segment ∷ list) h =
    let now = and_parts (is_good segment) (list_all is_good list) h in
    let good = good_parts (is_empty segment) (is_dots segment) now.0 in
    let rest = none_bad list now.1 in
    (rw (good.0, rest.0) refl, rw (good.1, rest.1) refl)
  where
    good_parts : (e d : Bool) → (not e && not d) ≡ true → (e ≡ false) × (d ≡ false)
    good_parts true d h = absurd (cc)
    good_parts false true h = absurd (cc)
    good_parts false false h = (refl, refl)

segments_good : (list : List (List ℕ)) → segments_fault list ≡ None → list_all is_good list ≡ true
segments_good list none =
    let went = chosen (list_any is_empty list) (list_any is_dots list) none in
    all_good list went.0 went.1
  where
    chosen : (e d : Bool) → (if e then Some EmptySegment else if d then Some DotSegment else None) ≡ None → (e ≡ false) × (d ≡ false)
    chosen true d h = absurd (cc)
    chosen false true h = absurd (cc)
    chosen false false h = (refl, refl)

-- what is read obeys the rule
pub key_of_parts : (text rest : List ℕ) → text ≡ 47 ∷ rest → length text ≤ 1024 → segments_fault (parts rest) ≡ None → is_key text ≡ true
key_of_parts text rest is short none =
    let size : length (47 ∷ rest) ≤ 1024 = rw is at short in
    rw (is, le-leb (length (47 ∷ rest)) 1024 size, segments_good (parts rest) none) refl

-- which way the search for faults went that found none
record Found (text : List ℕ) : Type 0 where
  slash : begins text ≡ true
  short : nat_lt 1024 (length text) ≡ false
  rest : segments_fault (segments text) ≡ None

found : (text : List ℕ) → key_fault text ≡ None → Found text
found text none = chosen (is_empty text) (begins text) (nat_lt 1024 (length text)) (segments_fault (segments text)) none refl refl refl
  where
    chosen : (e b l : Bool) (s : Option KeyFault) → (if e then Some Empty else if not b then Some NoSlash else if l then Some TooLong else s) ≡ None → begins text ≡ b → nat_lt 1024 (length text) ≡ l → segments_fault (segments text) ≡ s → Found text
    chosen true b l s h hb hl hs = absurd (cc)
    chosen false false l s h hb hl hs = absurd (cc)
    chosen false true true s h hb hl hs = absurd (cc)
    chosen false true false s h hb hl hs = record { slash = hb; short = hl; rest = hs ∙ h }

pub key_without_fault : (text : List ℕ) → key_fault text ≡ None → is_key text ≡ true
key_without_fault text none =
    let way = found text none in
    rw (way.slash, short_enough (length text) way.short, segments_good (segments text) way.rest) refl
  where
    short_enough : (n : ℕ) → nat_lt 1024 n ≡ false → nat_le n 1024 ≡ true
    short_enough n h = grind (arith, nat_tests)

pub no_fault_of_key : (text : List ℕ) → is_key text ≡ true → key_fault text ≡ None
no_fault_of_key [] h = absurd (cc)
no_fault_of_key (byte ∷ text) h =
    let first = and_parts (begins (byte ∷ text) && nat_le (length (byte ∷ text)) 1024) (list_all is_good (segments (byte ∷ text))) h in
    let front = and_parts (begins (byte ∷ text)) (nat_le (length (byte ∷ text)) 1024) first.0 in
    let good = none_bad (segments (byte ∷ text)) first.1 in
    let rest : segments_fault (segments (byte ∷ text)) ≡ None = none_of (list_any is_empty (segments (byte ∷ text))) (list_any is_dots (segments (byte ∷ text))) good.0 good.1 in
    none_chosen (is_empty (byte ∷ text)) (begins (byte ∷ text)) (nat_lt 1024 (length (byte ∷ text))) (segments_fault (segments (byte ∷ text))) refl front.0 (not_longer (length (byte ∷ text)) front.1) rest
  where
    not_longer : (n : ℕ) → nat_le n 1024 ≡ true → nat_lt 1024 n ≡ false
    not_longer n le = grind (arith, nat_tests)

    none_chosen : (e b l : Bool) (s : Option KeyFault) → e ≡ false → b ≡ true → l ≡ false → s ≡ None → (if e then Some Empty else if not b then Some NoSlash else if l then Some TooLong else s) ≡ None
    none_chosen e b l s he hb hl hs = rw (he, hb, hl, hs) refl

    none_of : (e d : Bool) → e ≡ false → d ≡ false → (if e then Some EmptySegment else if d then Some DotSegment else None) ≡ None
    none_of e d he hd = rw (he, hd) refl
