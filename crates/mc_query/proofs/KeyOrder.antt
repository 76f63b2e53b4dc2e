-- The order of keys by their bytes: keys that begin alike stand together.
use Rattle.std.proofs.Common.{◌≡◌, ℕ, Bool, true, false, List, [], ◌∷◌, ◌++◌, refl, sym, ap, ◌∙◌, subst}
use Rattle.std.proofs.lemmas.Bool.{eqb-true, false≢true}
use Rattle.std.proofs.lemmas.Cmp.{nat_cmp_total, nat_list_cmp_total, tied_itself}
use Rattle.std.specs.BTreeMap.Comparable.{le_lt_trans}
use Rattle.std.specs.Cmp.{unsigned_tied}
use Rattle.std.specs.Cmp.Lexicographic.{slice_cmp}
use Rattle.std.specs.Ordering.{is_lt, is_le, is_eq, nat_cmp, ordering_then, ordering_reverse}
use Rattle.std.specs.declared.cmp.Ordering.{Ordering}
use Rattle.std.specs.declared.cmp.Ordering.TheVariants.{Less, Equal, Greater}
use Rattle.std.proofs.lemmas.Map.Lookups.{exact_bytes}
use Rattle.mc_base.proofs.Orders.{less_is}
use Rattle.mc_keep.specs.Next.{is_past}

-- keys that tie are equal

bytes_tied : (x y : ℕ) → nat_cmp x y ≡ Equal → x ≡ y
bytes_tied x y e = eqb-true x y (sym (unsigned_tied x y) ∙ ap is_eq e)

-- a text is at most each that begins with it
pub begins_past : (text rest : List ℕ) → is_le (slice_cmp nat_cmp text (text ++ rest)) ≡ true
begins_past [] [] = refl
begins_past [] (byte ∷ rest) = refl
begins_past (byte ∷ text) rest = ap (λ (o : Ordering). is_le (ordering_then o (slice_cmp nat_cmp text (text ++ rest)))) (tied_itself nat_cmp_total byte) ∙ begins_past text rest

-- what stands between a text and one that begins with it begins with it
pub between : (text key rest : List ℕ) → is_le (slice_cmp nat_cmp text key) ≡ true → is_le (slice_cmp nat_cmp key (text ++ rest)) ≡ true → (more : List ℕ) × (key ≡ text ++ more)
between [] key rest above below = (key, refl)
between (byte ∷ text) [] rest above below = absurd (false≢true above)
between (byte ∷ text) (first ∷ key) rest above below = (elim (nat_cmp byte first) as (λ o. nat_cmp byte first ≡ o → (more : List ℕ) × (first ∷ key ≡ byte ∷ text ++ more)) [
  | Less ↦ λ e.
      let turned : nat_cmp first byte ≡ Greater = nat_cmp_total.antisymm first byte ∙ ap ordering_reverse e in
      absurd (false≢true (sym (ap (λ (o : Ordering). is_le (ordering_then o (slice_cmp nat_cmp key (text ++ rest)))) turned) ∙ below))
  | Equal ↦ λ e.
      let turned : nat_cmp first byte ≡ Equal = nat_cmp_total.antisymm first byte ∙ ap ordering_reverse e in
      let more = between text key rest
      (sym (ap (λ (o : Ordering). is_le (ordering_then o (slice_cmp nat_cmp text key))) e) ∙ above)
      (sym (ap (λ (o : Ordering). is_le (ordering_then o (slice_cmp nat_cmp key (text ++ rest)))) turned) ∙ below) in
      (more.0, ap (λ (b : ℕ). b ∷ key) (sym (bytes_tied byte first e)) ∙ ap (λ (tail : List ℕ). byte ∷ tail) more.1)
  | Greater ↦ λ e. absurd (false≢true (sym (ap (λ (o : Ordering). is_le (ordering_then o (slice_cmp nat_cmp text key))) e) ∙ above))
]) refl

-- what is above a key past a bound is past it
pub past_more : (bound : List ℕ) (inclusive : Bool) (key next : List ℕ) → is_past bound inclusive key ≡ true → slice_cmp nat_cmp key next ≡ Less → is_past bound inclusive next ≡ true
past_more bound true key next past above = ap is_le (le_lt_trans nat_list_cmp_total bound key next past above)
past_more bound false key next past above = ap is_lt (nat_list_cmp_total.trans bound key next (less_is (slice_cmp nat_cmp bound key) past) above)

-- and so it is at the bound or above it
pub past_bound : (start bound : List ℕ) (inclusive : Bool) (key : List ℕ) → is_past start true bound ≡ true → is_past bound inclusive key ≡ true → is_past start true key ≡ true
past_bound start bound true key from past = (elim (slice_cmp nat_cmp bound key) as (λ o. slice_cmp nat_cmp bound key ≡ o → is_past start true key ≡ true) [
  | Less ↦ λ e. past_more start true bound key from e
  | Equal ↦ λ e. subst (λ (k : List ℕ). is_past start true k ≡ true) (exact_bytes bound key e) from
  | Greater ↦ λ e. absurd (false≢true (sym (ap is_le e) ∙ past))
]) refl
past_bound start bound false key from past = past_more start true bound key from (less_is (slice_cmp nat_cmp bound key) past)

-- a key isn't past itself
pub not_past_itself : (key : List ℕ) → is_past key false key ≡ false
not_past_itself key = ap is_lt (tied_itself nat_list_cmp_total key)

pub is_past_at : (key : List ℕ) → is_past key true key ≡ true
is_past_at key = ap is_le (tied_itself nat_list_cmp_total key)
