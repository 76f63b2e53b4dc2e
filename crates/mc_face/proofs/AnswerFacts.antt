-- Over every face, also one that isn't exact, the pairs of a query ascend, are selected and are at most so many.
use Rattle.std.proofs.Common.{◌≡◌, ℕ, zero, suc, true, false, cond, List, [], ◌∷◌, map, take, drop, length, refl, ap, sym, subst, ◌∙◌, arith, length-take}
use Rattle.std.specs.Prelude.{filter}
use Rattle.std.specs.List.{list_all, AllByRecursion}
use Rattle.std.specs.List.Sorted.{IsStrictlySortedBy}
use Rattle.std.specs.Ordering.{nat_cmp, is_lt}
use Rattle.std.specs.declared.cmp.Ordering.{Ordering}
use Rattle.std.specs.declared.cmp.Ordering.TheVariants.{Less}
use Rattle.std.specs.Cmp.Lexicographic.{slice_cmp}
use Rattle.std.specs.String.{string_cmp}
use Rattle.std.specs.declared.string.String.{String}
use Rattle.std.specs.Map.{keys_of}
use Rattle.std.proofs.lemmas.List.{take-map, drop-map, length-map}
use Rattle.std.proofs.lemmas.List.Kept.{IsStrictlySortedBy-filter}
use Rattle.mc_key.specs.Prefix.{is_under}
use Rattle.mc_query.specs.Answers.{Ascend, AreAnswers}
use Rattle.mc_query.specs.Places.{start_of, pair_of}
use Rattle.mc_query.specs.declared.pair.Pair.{Pair}
use Rattle.mc_query.proofs.NextFacts.{selected_past}
use Rattle.mc_face.specs.Pairs as plain
use Rattle.mc_face.specs.Pairs.{pairs_of}
use Rattle.mc_face.specs.Rows.{selects, rows_of}
use Rattle.mc_face.proofs.QueryFacts.{pairs_sorted}

module _ {A : Type 0} where
  all_take : (P : A → Type 0) (n : ℕ) (xs : List A) → AllByRecursion P xs → AllByRecursion P (take n xs)
  all_take P zero xs all = tt
  all_take P (suc n) [] all = tt
  all_take P (suc n) (x ∷ xs) all = (all.0, all_take P n xs all.1)

  all_drop : (P : A → Type 0) (n : ℕ) (xs : List A) → AllByRecursion P xs → AllByRecursion P (drop n xs)
  all_drop P zero xs all = all
  all_drop P (suc n) [] all = tt
  all_drop P (suc n) (x ∷ xs) all = all_drop P n xs all.1

  module _ (cmp : A → A → Ordering) where
    sorted_take : (n : ℕ) (xs : List A) → IsStrictlySortedBy cmp xs → IsStrictlySortedBy cmp (take n xs)
    unfolding IsStrictlySortedBy
    sorted_take zero xs sorted = tt
    sorted_take (suc n) [] sorted = tt
    sorted_take (suc n) (x ∷ xs) sorted = (all_take (λ y. cmp x y ≡ Less) n xs sorted.0, sorted_take n xs sorted.1)

    sorted_drop : (n : ℕ) (xs : List A) → IsStrictlySortedBy cmp xs → IsStrictlySortedBy cmp (drop n xs)
    unfolding IsStrictlySortedBy
    sorted_drop zero xs sorted = sorted
    sorted_drop (suc n) [] sorted = tt
    sorted_drop (suc n) (x ∷ xs) sorted = sorted_drop n xs sorted.1

module _ (prefix : List ℕ) where
  all_selected : (pairs : List plain.Pair) → AllByRecursion (λ (pair : plain.Pair). is_under prefix pair.0 ≡ true) (filter (selects prefix) pairs)
  all_selected [] = tt
  all_selected (pair ∷ pairs) =
      (elim (is_under prefix pair.0) as (λ b. is_under prefix pair.0 ≡ b → AllByRecursion (λ (p : plain.Pair). is_under prefix p.0 ≡ true) (cond b (pair ∷ filter (selects prefix) pairs) (filter (selects prefix) pairs))) [
        | true ↦ λ e. (e, all_selected pairs)
        | false ↦ λ e. all_selected pairs
      ]) refl

  keys_selected : (pairs : List plain.Pair) → keys_of (filter (selects prefix) pairs) ≡ filter (is_under prefix) (keys_of pairs)
  keys_selected [] = refl
  keys_selected (pair ∷ pairs) = elim (is_under prefix pair.0) as (λ b. keys_of (cond b (pair ∷ filter (selects prefix) pairs) (filter (selects prefix) pairs)) ≡ cond b (pair.0 ∷ filter (is_under prefix) (keys_of pairs)) (filter (is_under prefix) (keys_of pairs))) [
    | true ↦ ap (λ keys. pair.0 ∷ keys) (keys_selected pairs)
    | false ↦ keys_selected pairs
  ]

  rows_sorted : (pairs : List plain.Pair) (skip count : ℕ) → IsStrictlySortedBy (slice_cmp nat_cmp) (keys_of pairs) → IsStrictlySortedBy (slice_cmp nat_cmp) (keys_of (rows_of pairs prefix skip count))
  rows_sorted pairs skip count sorted =
      let first : plain.Pair → List ℕ = λ (pair : plain.Pair). pair.0 in
      let rest = filter (selects prefix) pairs in
      let same : take count (drop skip (filter (is_under prefix) (keys_of pairs))) ≡ keys_of (take count (drop skip rest)) =
      ap (λ keys. take count (drop skip keys)) (sym (keys_selected pairs)) ∙ (ap (take count) (drop-map first skip rest) ∙ take-map first count (drop skip rest)) in
      subst (IsStrictlySortedBy (slice_cmp nat_cmp)) same
      (sorted_take (slice_cmp nat_cmp) count (drop skip (filter (is_under prefix) (keys_of pairs)))
      (sorted_drop (slice_cmp nat_cmp) skip (filter (is_under prefix) (keys_of pairs)) (IsStrictlySortedBy-filter (slice_cmp nat_cmp) (is_under prefix) (keys_of pairs) sorted)))

  -- ---- the same of the pairs as they are given

  given_under : (pairs : List Pair) → AllByRecursion (λ (pair : plain.Pair). is_under prefix pair.0 ≡ true) (map pair_of pairs) → list_all (λ (pair : Pair). is_under prefix pair.key) pairs ≡ true
  given_under [] all = refl
  given_under (pair ∷ pairs) all = rw (all.0, given_under pairs all.1) refl

  given_steps : (pair : Pair) (pairs : List Pair) → IsStrictlySortedBy (slice_cmp nat_cmp) (keys_of (map pair_of (pair ∷ pairs))) → Ascend pair.key false pairs
  unfolding IsStrictlySortedBy
  given_steps pair [] sorted = tt
  given_steps pair (next ∷ pairs) sorted = (ap is_lt sorted.0.0, given_steps next pairs sorted.1)

  given_ascend : (pairs : List Pair) → IsStrictlySortedBy (slice_cmp nat_cmp) (keys_of (map pair_of pairs)) → AllByRecursion (λ (pair : plain.Pair). is_under prefix pair.0 ≡ true) (map pair_of pairs)
      → Ascend (start_of prefix) true pairs
  given_ascend [] sorted all = tt
  given_ascend (pair ∷ pairs) sorted all = (selected_past prefix pair.key all.0, given_steps pair pairs sorted)

  pub rows_answer : {Y : Type 0} (entries : List (String Y × List ℕ)) (skip count : ℕ) (pairs : List Pair) → IsStrictlySortedBy string_cmp (keys_of entries)
      → map pair_of pairs ≡ rows_of (pairs_of entries) prefix skip count → AreAnswers (start_of prefix) true prefix count pairs
  rows_answer entries skip count pairs sorted are =
      let rest = drop skip (filter (selects prefix) (pairs_of entries)) in
      let under : plain.Pair → Type 0 = λ (pair : plain.Pair). is_under prefix pair.0 ≡ true in
      let all : AllByRecursion under (map pair_of pairs) =
      subst (AllByRecursion under) (sym are)
      (all_take under count rest (all_drop under skip (filter (selects prefix) (pairs_of entries)) (all_selected (pairs_of entries)))) in
      let ordered : IsStrictlySortedBy (slice_cmp nat_cmp) (keys_of (map pair_of pairs)) =
      subst (λ (rows : List plain.Pair). IsStrictlySortedBy (slice_cmp nat_cmp) (keys_of rows)) (sym are) (rows_sorted (pairs_of entries) skip count (pairs_sorted entries sorted)) in
      record {
        few = omega (arith, length-map pairs pair_of, ap length are, length-take count rest);
        under = given_under pairs all;
        ascend = given_ascend pairs ordered all;
      }
