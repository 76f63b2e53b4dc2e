-- The rows of the first keys in order are those of the next keys; and the key at a place of the keys in order.
use Rattle.std.proofs.Common.{◌≡◌, ◌⊎◌, inl, inr, ℕ, zero, suc, ◌+◌, ◌-◌, ◌<◌, ◌≤◌, Bool, true, false, ◌||◌, ◌&&◌, not, List, [], ◌∷◌, ◌++◌, length, refl, sym, ap, ◌∙◌, subst, arith, Option, Some, None}
use Rattle.std.proofs.lemmas.Bool.{false≢true, or_left, or_right}
use Rattle.std.proofs.lemmas.Cmp.{nat_list_cmp_total, nat_list_eq_equiv}
use Rattle.std.proofs.lemmas.List.Kept.{IsStrictlySortedBy-filter}
use Rattle.std.proofs.lemmas.Grind.{flat_map-append}
use Rattle.std.proofs.lemmas.List.{map-append, append_assoc, append-nil, length-append}
use Rattle.std.proofs.lemmas.Map.Text.{is_eq-slice_cmp}
use Rattle.std.proofs.lemmas.Map.Views.{any-filter_same}
use Rattle.std.specs.BTreeMap.Comparable.{le_lt_trans}
use Rattle.std.specs.BTreeSet.{BTreeSet, contains_text, keys_between, IsOrdered}
use Rattle.std.specs.Cmp.Lexicographic.{slice_cmp}
use Rattle.std.specs.List.{list_any, AllByRecursion}
use Rattle.std.specs.List.Sorted.{IsStrictlySortedBy}
use Rattle.std.specs.Ordering.{is_lt, is_le, is_eq, nat_cmp, ordering_reverse}
use Rattle.std.specs.Option.{option_map, option_and_then}
use Rattle.std.specs.Prelude.{is_some, filter, map, cond, slice_get}
use Rattle.std.specs.String.{string_bytes, string_cmp}
use Rattle.std.specs.declared.cmp.Ordering.{Ordering}
use Rattle.std.specs.declared.cmp.Ordering.TheVariants.{Less, Equal, Greater}
use Rattle.std.specs.declared.ops.Bound.TheVariants.{Included, Excluded, Unbounded}
use Rattle.std.specs.declared.string.String.{String}
use denote.Ref.{Bor}
use lib.Pointwise.{bytes_decides}
use Rattle.mc_base.proofs.Orders.{less_is}
use Rattle.mc_model.specs.Rank.{Ranked}
use Rattle.mc_keep.specs.Next.{is_past, IsNextRow, AreNextOf, IsKeyAtOf}
use Rattle.mc_keep.specs.declared.rows.ValueRow.{ValueRow}
use Rattle.mc_tables.specs.declared.elements.Node.{Node}
use Rattle.mc_tables.specs.Values.{ranked_in, row_in}
use Rattle.mc_tables.specs.Listed.{row_listed, rows_listed, keys_past}

-- whether a key of the list is this text
abbrev pub has_key : {Y : Type 0} → List ℕ → List (String Y) → Bool
has_key {Y} text keys = list_any (λ (k : String Y). is_eq (slice_cmp nat_cmp text (string_bytes k))) keys

abbrev pub ArePast : {Y : Type 0} → List ℕ → Bool → List (String Y) → Type 0
ArePast {Y} bound inclusive keys = AllByRecursion (λ (k : String Y). is_past bound inclusive (string_bytes k) ≡ true) keys

abbrev pub AreAbove : {Y : Type 0} → String Y → List (String Y) → Type 0
AreAbove {Y} key keys = AllByRecursion (λ (k : String Y). string_cmp key k ≡ Less) keys

-- each key past a bound with a value is in the list
abbrev pub AreThere : {Y : Type 0} → (List ℕ → Option Ranked) → List ℕ → Bool → List (String Y) → Type 0
AreThere value bound inclusive keys = (text : List ℕ) → is_past bound inclusive text ≡ true → is_some (value text) ≡ true → has_key text keys ≡ true

-- each of the keys has a value
abbrev pub AllHave : {Y : Type 0} → (List ℕ → Option Ranked) → List (String Y) → Type 0
AllHave {Y} value keys = AllByRecursion (λ (k : String Y). is_some (value (string_bytes k)) ≡ true) keys

past_more : (bound : List ℕ) (inclusive : Bool) (key next : List ℕ) → is_past bound inclusive key ≡ true → slice_cmp nat_cmp key next ≡ Less → is_past bound inclusive next ≡ true
past_more bound true key next past above = ap is_le (le_lt_trans nat_list_cmp_total bound key next past above)
past_more bound false key next past above = ap is_lt (nat_list_cmp_total.trans bound key next (less_is (slice_cmp nat_cmp bound key) past) above)

past_above : {Y : Type 0} (key : String Y) (keys : List (String Y)) → AreAbove key keys → ArePast (string_bytes key) false keys
past_above key [] above = tt
past_above key (next ∷ keys) above = (ap is_lt above.0, past_above key keys above.1)

nothing : (value : Option Ranked) → (is_some value ≡ true → ⊥) → value ≡ None
nothing None never = refl
nothing (Some ranked) never = absurd (never refl)

-- what ties with a key is its text
tied : {Y : Type 0} (text : List ℕ) (key : String Y) → is_eq (slice_cmp nat_cmp text (string_bytes key)) ≡ true → text ≡ string_bytes key
tied text key e = (bytes_decides text (string_bytes key)).0 (sym (is_eq-slice_cmp text (string_bytes key)) ∙ e)

-- a text below a key is none of those above it
not_below : {Y : Type 0} (key : String Y) (keys : List (String Y)) (text : List ℕ) → AreAbove key keys → is_lt (slice_cmp nat_cmp text (string_bytes key)) ≡ true → has_key text keys ≡ true → ⊥
not_below key [] text above below there = false≢true there
not_below key (next ∷ keys) text above below there =
    (elim (is_eq (slice_cmp nat_cmp text (string_bytes next))) as (λ b. is_eq (slice_cmp nat_cmp text (string_bytes next)) ≡ b → (b || has_key text keys) ≡ true → ⊥) [
      | true ↦ λ e h.
          let less : slice_cmp nat_cmp (string_bytes key) text ≡ Less = ap (slice_cmp nat_cmp (string_bytes key)) (tied text next e) ∙ above.0 in
          let turned : slice_cmp nat_cmp text (string_bytes key) ≡ Greater = nat_list_cmp_total.antisymm text (string_bytes key) ∙ ap ordering_reverse less in
          false≢true (sym (ap is_lt turned) ∙ below)
      | false ↦ λ e h. not_below key keys text above.1 below h
    ]) refl there

-- no text below the first of the keys is among them
not_first : {Y : Type 0} (key : String Y) (keys : List (String Y)) (text : List ℕ) → AreAbove key keys → is_lt (slice_cmp nat_cmp text (string_bytes key)) ≡ true → has_key text (key ∷ keys) ≡ true → ⊥
not_first key keys text above below there =
    (elim (is_eq (slice_cmp nat_cmp text (string_bytes key))) as (λ b. is_eq (slice_cmp nat_cmp text (string_bytes key)) ≡ b → (b || has_key text keys) ≡ true → ⊥) [
      | true ↦ λ e h. is_not (slice_cmp nat_cmp text (string_bytes key)) below e
      | false ↦ λ e h. not_below key keys text above below h
    ]) refl there
  where
    is_not : (o : Ordering) → is_lt o ≡ true → is_eq o ≡ true → ⊥
    is_not Less lt eq = false≢true eq
    is_not Equal lt eq = false≢true lt
    is_not Greater lt eq = false≢true lt

-- what is in a list and isn't its first key is in the rest
in_rest : {Y : Type 0} (key : String Y) (keys : List (String Y)) (text : List ℕ) → (text ≡ string_bytes key → ⊥) → has_key text (key ∷ keys) ≡ true → has_key text keys ≡ true
in_rest key keys text other there =
    (elim (is_eq (slice_cmp nat_cmp text (string_bytes key))) as (λ b. is_eq (slice_cmp nat_cmp text (string_bytes key)) ≡ b → (b || has_key text keys) ≡ true → has_key text keys ≡ true) [
      | true ↦ λ e h. absurd (other (tied text key e))
      | false ↦ λ e h. h
    ]) refl there

not_above_itself : (text : List ℕ) (key : List ℕ) → is_past key false text ≡ true → text ≡ key → ⊥
not_above_itself text key past is =
    let less : slice_cmp nat_cmp key key ≡ Less = less_is (slice_cmp nat_cmp key key) (subst (λ (t : List ℕ). is_past key false t ≡ true) is past) in
    let turned : slice_cmp nat_cmp key key ≡ Greater = nat_list_cmp_total.antisymm key key ∙ ap ordering_reverse less in
    false≢true (sym (ap is_lt turned) ∙ ap is_lt less)

-- the first of the keys, where it has a value, is the next one
first_next : {Y : Type 0} (value : List ℕ → Option Ranked) (bound : List ℕ) (inclusive : Bool) (key : String Y) (keys : List (String Y)) (ranked : Ranked) → AreAbove key keys → is_past bound inclusive (string_bytes key) ≡ true →
    AreThere value bound inclusive (key ∷ keys) → value (string_bytes key) ≡ Some ranked → IsNextRow value bound inclusive (record { key = string_bytes key; priority = ranked.0; value = ranked.1 })
first_next value bound inclusive key keys ranked above past there is = record {
  past = past;
  is_value = is;
  least = λ text text_past below. nothing (value text) (λ has. not_first key keys text above below (there text text_past has));
}

after_first : {Y : Type 0} (value : List ℕ → Option Ranked) (bound : List ℕ) (inclusive : Bool) (key : String Y) (keys : List (String Y)) → is_past bound inclusive (string_bytes key) ≡ true →
    AreThere value bound inclusive (key ∷ keys) → AreThere value (string_bytes key) false keys
after_first value bound inclusive key keys past there text text_past has =
    in_rest key keys text (not_above_itself text (string_bytes key) text_past)
    (there text (past_more bound inclusive (string_bytes key) text past (less_is (slice_cmp nat_cmp (string_bytes key) text) text_past)) has)

pub listed_next : {Y : Type 0} (value : List ℕ → Option Ranked) (bound : List ℕ) (inclusive : Bool) (taken rest : List (String Y)) (most : ℕ) → IsStrictlySortedBy string_cmp (taken ++ rest) →
    ArePast bound inclusive (taken ++ rest) → AreThere value bound inclusive (taken ++ rest) → length (rows_listed value taken) ≤ most → (most ≤ length (rows_listed value taken)) ⊎ (rest ≡ []) →
    AreNextOf value bound inclusive most (rows_listed value taken)
unfolding IsStrictlySortedBy
listed_next value bound inclusive [] rest most sorted past there few ended = λ some text text_past. nothing (value text) (λ has. elim ended [
  | inl full ↦ absurd (omega (arith, some, full))
  | inr none ↦ false≢true (subst (λ (keys : List (String _)). has_key text keys ≡ true) none (there text text_past has))
])
listed_next {Y = Y} value bound inclusive (key ∷ taken) rest most sorted past there few ended =
    by (value (string_bytes key)) refl few ended
    (λ gone within over. listed_next value bound inclusive taken rest most sorted.1 past.1 (less_there gone) within over)
    (λ within over. listed_next value (string_bytes key) false taken rest (most - 1) sorted.1 (past_above key (taken ++ rest) sorted.0) (after_first value bound inclusive key (taken ++ rest) past.0 there) within over)
  where
    less_there : value (string_bytes key) ≡ None → AreThere value bound inclusive (taken ++ rest)
    less_there gone text text_past has = in_rest key (taken ++ rest) text (λ is. false≢true (sym (ap is_some (ap value is ∙ gone)) ∙ has)) (there text text_past has)

    by : (v : Option Ranked) → value (string_bytes key) ≡ v → length (row_listed (string_bytes key) v ++ rows_listed value taken) ≤ most → (most ≤ length (row_listed (string_bytes key) v ++ rows_listed value taken)) ⊎ (rest ≡ []) →
        (value (string_bytes key) ≡ None → length (rows_listed value taken) ≤ most → (most ≤ length (rows_listed value taken)) ⊎ (rest ≡ []) → AreNextOf value bound inclusive most (rows_listed value taken)) →
        (length (rows_listed value taken) ≤ most - 1 → (most - 1 ≤ length (rows_listed value taken)) ⊎ (rest ≡ []) → AreNextOf value (string_bytes key) false (most - 1) (rows_listed value taken)) →
        AreNextOf value bound inclusive most (row_listed (string_bytes key) v ++ rows_listed value taken)
    by None is within over passed next = passed is within over
    by (Some ranked) is within over passed next = (
      omega (arith, within),
      first_next value bound inclusive key (taken ++ rest) ranked sorted.0 past.0 there is,
      next (omega (arith, within)) (elim over [ inl full ↦ inl (omega (arith, full)) | inr none ↦ inr none ]),
    )

-- the key at a place, where each of the keys has a value
key_listed : {Y : Type 0} (value : List ℕ → Option Ranked) (bound : List ℕ) (inclusive : Bool) (keys : List (String Y)) (place : ℕ) → IsStrictlySortedBy string_cmp keys → ArePast bound inclusive keys →
    AreThere value bound inclusive keys → AllHave value keys → IsKeyAtOf value bound inclusive place (option_map (λ (k : String Y). string_bytes k) (slice_get keys place))
unfolding IsStrictlySortedBy
key_listed value bound inclusive [] place sorted past there have = ([], λ some text text_past. nothing (value text) (λ has. false≢true (there text text_past has)), refl)
key_listed {Y = Y} value bound inclusive (key ∷ keys) place sorted past there have =
    by (value (string_bytes key)) refl have.0 place
    (λ later. key_listed value (string_bytes key) false keys later sorted.1 (past_above key keys sorted.0) (after_first value bound inclusive key keys past.0 there) have.1)
  where
    named : (place : ℕ) → List (String Y) → Option (List ℕ)
    named place texts = option_map (λ (k : String Y). string_bytes k) (slice_get texts place)

    by : (v : Option Ranked) → value (string_bytes key) ≡ v → is_some v ≡ true → (n : ℕ) → ((later : ℕ) → IsKeyAtOf value (string_bytes key) false later (named later keys)) → IsKeyAtOf value bound inclusive n (named n (key ∷ keys))
    by None is some n next = absurd (false≢true some)
    by (Some ranked) is some zero next =
        let row : ValueRow = record { key = string_bytes key; priority = ranked.0; value = ranked.1 } in
        (row ∷ [], (omega arith, first_next value bound inclusive key keys ranked sorted.0 past.0 there is, λ more. absurd (omega (arith, more))), refl)
    by (Some ranked) is some (suc n) next =
        let row : ValueRow = record { key = string_bytes key; priority = ranked.0; value = ranked.1 } in
        let found = next n in
        let most : n + 1 ≡ suc n + 1 - 1 = omega arith in (
          row ∷ found.0,
          (
            omega arith,
            first_next value bound inclusive key keys ranked sorted.0 past.0 there is,
            subst (λ (m : ℕ). AreNextOf value (string_bytes key) false m found.0) most found.1,
          ),
          found.2,
        )

-- while the keys are gone through
pub record IsListing {Y : Type 0} (value : List ℕ → Option Ranked) (keys : List (String Y)) (yielded : List (Bor (String Y))) (left : List (String Y)) (most : ℕ) (rows : List ValueRow) : Type 0 where
  pub parts : keys ≡ map (λ (key : Bor (String Y)). key.now) yielded ++ left
  pub are : rows ≡ rows_listed value (map (λ (key : Bor (String Y)). key.now) yielded)
  pub few : length rows ≤ most

pub listing_start : {Y : Type 0} (value : List ℕ → Option Ranked) (keys : List (String Y)) (most : ℕ) (rows : List ValueRow) → rows ≡ [] → IsListing value keys [] keys most rows
listing_start value keys most rows is = record { parts = refl; are = is; few = rw is (omega arith) }

at_most_one : (text : List ℕ) (value : Option Ranked) → length (row_listed text value) ≤ 1
at_most_one text None = omega arith
at_most_one text (Some ranked) = omega arith

pub listing_more : {Y : Type 0} (value : List ℕ → Option Ranked) (keys : List (String Y)) (yielded : List (Bor (String Y))) (left rest : List (String Y)) (most : ℕ) (rows new : List ValueRow) (key : Bor (String Y)) (text : List ℕ) →
    left ≡ key.now ∷ rest → length rows < most → text ≡ string_bytes key.now → new ≡ rows ++ row_listed text (value text) → IsListing value keys yielded left most rows → IsListing value keys (yielded ++ key ∷ []) rest most new
listing_more {Y = Y} value keys yielded left rest most rows new key text next room same pushed listing =
    let texts : List (Bor (String Y)) → List (String Y) = map (λ (k : Bor (String Y)). k.now) in
    let ended : texts (yielded ++ key ∷ []) ≡ texts yielded ++ key.now ∷ [] = map-append (λ (k : Bor (String Y)). k.now) yielded (key ∷ []) in
    let last : row_listed text (value text) ≡ rows_listed value (key.now ∷ []) = ap (λ (t : List ℕ). row_listed t (value t)) same ∙ sym (append-nil (row_listed (string_bytes key.now) (value (string_bytes key.now)))) in
    let most_one = at_most_one text (value text) in
    record {
      parts = listing.parts ∙ ap (λ (l : List (String Y)). texts yielded ++ l) next ∙ sym (append_assoc (texts yielded) (key.now ∷ []) rest) ∙ ap (λ (l : List (String Y)). l ++ rest) (sym ended);
      are =
          pushed ∙ ap (λ (r : List ValueRow). r ++ row_listed text (value text)) listing.are ∙ ap (λ (r : List ValueRow). rows_listed value (texts yielded) ++ r) last
          ∙ sym (flat_map-append (λ (k : String Y). row_listed (string_bytes k) (value (string_bytes k))) (texts yielded) (key.now ∷ [])) ∙ ap (λ (l : List (String Y)). rows_listed value l) (sym ended);
      few = rw (pushed, length-append rows (row_listed text (value text))) (omega (arith, room, most_one));
    }

whole : (b : Bool) → (b && not false) ≡ b
whole true = refl
whole false = refl

-- the keys between these bounds are those past a text
module _ {Y : Type 0} (ordered : BTreeSet (String Y)) (from : String Y) (bound : List ℕ) (inclusive : Bool) (is : string_bytes from ≡ bound) where
  pub past_from : inclusive ≡ true → keys_between string_cmp (Included from) Unbounded ordered ≡ keys_past bound inclusive ordered
  past_from from_it =
      ap (λ (test : String Y → Bool). filter test ordered.keys) (λ i key. whole (is_le (string_cmp from key)) i)
      ∙ ap (λ (text : List ℕ). keys_past text true ordered) is ∙ ap (λ b. keys_past bound b ordered) (sym from_it)

  pub past_after : inclusive ≡ false → keys_between string_cmp (Excluded from) Unbounded ordered ≡ keys_past bound inclusive ordered
  past_after after_it =
      ap (λ (test : String Y → Bool). filter test ordered.keys) (λ i key. whole (is_lt (string_cmp from key)) i)
      ∙ ap (λ (text : List ℕ). keys_past text false ordered) is ∙ ap (λ b. keys_past bound b ordered) (sym after_it)

module _ {Y : Type 0} (ordered : BTreeSet (String Y)) (bound : List ℕ) (inclusive : Bool) where
  abbrev past_it : String Y → Bool
  past_it key = is_past bound inclusive (string_bytes key)

  each_past : (keys : List (String Y)) → ArePast bound inclusive (filter past_it keys)
  each_past [] = tt
  each_past (k ∷ keys) =
      (elim (past_it k) as (λ b. past_it k ≡ b → ArePast bound inclusive (cond b (k ∷ filter past_it keys) (filter past_it keys))) [
        | true ↦ λ e. (e, each_past keys)
        | false ↦ λ e. each_past keys
      ]) refl

  each_there : (text : List ℕ) → is_past bound inclusive text ≡ true → contains_text ordered text ≡ true → has_key text (keys_past bound inclusive ordered) ≡ true
  each_there text text_past there =
      any-filter_same (λ (k : String Y). is_eq (slice_cmp nat_cmp text (string_bytes k))) past_it true
      (λ k at. ap (is_past bound inclusive) (sym (tied text k at)) ∙ text_past) ordered.keys ∙ there

  each_has : (value : List ℕ → Option Ranked) (keys : List (String Y)) → ((text : List ℕ) → has_key text keys ≡ true → is_some (value text) ≡ true) → AllHave value (filter past_it keys)
  each_has value [] has = tt
  each_has value (k ∷ keys) has =
      let ties : List ℕ → Bool = λ text. is_eq (slice_cmp nat_cmp text (string_bytes k)) in
      let first = has (string_bytes k) (or_left (ties (string_bytes k)) (has_key (string_bytes k) keys) (is_eq-slice_cmp (string_bytes k) (string_bytes k) ∙ nat_list_eq_equiv.refl (string_bytes k))) in
      let rest = each_has value keys (λ text there. has text (or_right (ties text) (has_key text keys) there)) in
      elim (past_it k) as (λ b. AllHave value (cond b (k ∷ filter past_it keys) (filter past_it keys))) [
        | true ↦ (first, rest)
        | false ↦ rest
      ]

  sorted_past : IsOrdered string_cmp ordered → IsStrictlySortedBy string_cmp (keys_past bound inclusive ordered)
  sorted_past sorted = IsStrictlySortedBy-filter string_cmp past_it ordered.keys sorted

  -- what was listed of the keys past the bound
  pub listed_past : (nodes : List Node) (values : List ℕ → Option ℕ) (keys : List (String Y)) (yielded : List (Bor (String Y))) (left : List (String Y)) (most : ℕ) (rows : List ValueRow) → keys ≡ keys_past bound inclusive ordered →
      IsOrdered string_cmp ordered → ((key : List ℕ) → is_some (values key) ≡ true → contains_text ordered key ≡ true) → (most ≤ length rows) ⊎ (left ≡ []) → IsListing (row_in nodes values) keys yielded left most rows →
      AreNextOf (row_in nodes values) bound inclusive most rows
  listed_past nodes values keys yielded left most rows are sorted covered ended listing =
      let value = row_in nodes values in
      let taken : List (String Y) = map (λ (key : Bor (String Y)). key.now) yielded in
      let parts : keys_past bound inclusive ordered ≡ taken ++ left = sym are ∙ listing.parts in
      let few : length (rows_listed value taken) ≤ most = subst (λ (r : List ValueRow). length r ≤ most) listing.are listing.few in
      let over : (most ≤ length (rows_listed value taken)) ⊎ (left ≡ []) = subst (λ (r : List ValueRow). (most ≤ length r) ⊎ (left ≡ [])) listing.are ended in
      subst (λ (r : List ValueRow). AreNextOf value bound inclusive most r) (sym listing.are)
      (listed_next value bound inclusive taken left most
      (subst (λ (k : List (String Y)). IsStrictlySortedBy string_cmp k) parts (sorted_past sorted))
      (subst (λ (k : List (String Y)). ArePast bound inclusive k) parts (each_past ordered.keys))
      (λ text text_past has. subst (λ (k : List (String Y)). has_key text k ≡ true) parts (each_there text text_past (covered text (has_place (slice_get nodes) (values text) has))))
      few over)
    where
      has_place : (at : ℕ → Option Node) (place : Option ℕ) → is_some (option_map ranked_in (option_and_then at place)) ≡ true → is_some place ≡ true
      has_place at None has = has
      has_place at (Some place) has = refl

  -- the key at a place of those past the bound, where the keys in order are those with a value
  pub key_past : (value : List ℕ → Option Ranked) (place : ℕ) (keys : List (String Y)) (found : Option (String Y)) → keys ≡ keys_past bound inclusive ordered → IsOrdered string_cmp ordered →
      ((text : List ℕ) → is_some (value text) ≡ contains_text ordered text) → found ≡ slice_get keys place → IsKeyAtOf value bound inclusive place (option_map (λ (k : String Y). string_bytes k) found)
  key_past value place keys found are sorted exact is =
      subst (λ (f : Option (String Y)). IsKeyAtOf value bound inclusive place (option_map (λ (k : String Y). string_bytes k) f)) (sym (is ∙ ap (λ (k : List (String Y)). slice_get k place) are))
      (key_listed value bound inclusive (keys_past bound inclusive ordered) place (sorted_past sorted) (each_past ordered.keys)
      (λ text text_past has. each_there text text_past (sym (exact text) ∙ has)) (each_has value ordered.keys (λ text there. exact text ∙ there)))
