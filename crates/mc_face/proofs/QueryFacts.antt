-- The pairs of an exact face are the keys with a value, so that its queries are those of the blocks.
use Rattle.std.proofs.Common.{◌≡◌, ℕ, Bool, true, false, cond, ◌||◌, List, [], ◌∷◌, map, take, drop, Option, Some, None, refl, ap, sym, subst, ◌∙◌}
use Rattle.std.specs.Prelude.{filter, is_some, unwrap_or}
use Rattle.std.specs.List.{list_any, AllByRecursion}
use Rattle.std.specs.List.Sorted.{IsStrictlySortedBy}
use Rattle.std.specs.Ordering.{nat_cmp, is_eq, ordering_reverse}
use Rattle.std.specs.declared.cmp.Ordering.TheVariants.{Less, Equal, Greater}
use Rattle.std.specs.Cmp.Lexicographic.{slice_cmp}
use Rattle.std.specs.Str.{bytes_eq}
use Rattle.std.specs.String.{string_bytes, string_cmp}
use Rattle.std.specs.declared.string.String.{String}
use Rattle.std.specs.Map.{keys_of}
use Rattle.std.specs.BTreeMap.{BTreeMap, IsOrdered}
use Rattle.std.proofs.lemmas.Cmp.{nat_list_cmp_total}
use Rattle.std.proofs.lemmas.List.{take-map, drop-map}
use Rattle.std.proofs.lemmas.Map.Lookups.{exact_bytes}
use Rattle.std.proofs.lemmas.Map.Text.{is_eq-slice_cmp}
use Rattle.mc_key.specs.Prefix.{is_under}
use Rattle.mc_model.specs.declared.block.Block.{Block}
use Rattle.mc_model.specs.Answers.{has_value, valued_keys, with_value, query}
use Rattle.mc_model.specs.Live.{value}
use Rattle.mc_face.specs.Pairs.{Pair, pairs_of, value_at}
use Rattle.mc_face.specs.Exact.{IsExact, StandsFor}
use Rattle.mc_face.specs.Rows.{selects, rows_of}
use Rattle.mc_face.proofs.PairFacts.{same_text, text_itself, turned_text}

-- the laws of the keys with a value
abbrev pub SortedKeys : Type 0
SortedKeys = (blocks : List Block) → IsStrictlySortedBy (slice_cmp nat_cmp) (valued_keys blocks)

abbrev pub ExactKeys : Type 0
ExactKeys = (blocks : List Block) (key : List ℕ) → list_any (λ other. bytes_eq other key) (valued_keys blocks) ≡ has_value blocks key

-- ---- the keys of the pairs

pairs_below : {Y : Type 0} (key : String Y) (entries : List (String Y × List ℕ)) → AllByRecursion (λ k. string_cmp key k ≡ Less) (keys_of entries)
    → AllByRecursion (λ k. slice_cmp nat_cmp (string_bytes key) k ≡ Less) (keys_of (pairs_of entries))
pairs_below key [] below = tt
pairs_below key (entry ∷ entries) below = (below.0, pairs_below key entries below.1)

pub pairs_sorted : {Y : Type 0} (entries : List (String Y × List ℕ)) → IsStrictlySortedBy string_cmp (keys_of entries) → IsStrictlySortedBy (slice_cmp nat_cmp) (keys_of (pairs_of entries))
unfolding IsStrictlySortedBy
pairs_sorted [] sorted = tt
pairs_sorted (entry ∷ entries) sorted = (pairs_below entry.0 entries sorted.0, pairs_sorted entries sorted.1)

-- ---- look-ups

keys_with : (blocks : List Block) (keys : List (List ℕ)) → keys_of (map (with_value blocks) keys) ≡ keys
keys_with blocks [] = refl
keys_with blocks (key ∷ keys) = ap (λ rest. key ∷ rest) (keys_with blocks keys)

found_with : (blocks : List Block) (key : List ℕ) (keys : List (List ℕ))
    → value_at (map (with_value blocks) keys) key ≡ cond (list_any (λ other. bytes_eq other key) keys) (Some (unwrap_or (value blocks key) [])) None
found_with blocks key [] = refl
found_with blocks key (other ∷ keys) = by (bytes_eq other key) refl (found_with blocks key keys)
  where
    known : Bool → Option (List ℕ)
    known b = cond b (Some (unwrap_or (value blocks key) [])) None

    by : (b : Bool) → bytes_eq other key ≡ b → value_at (map (with_value blocks) keys) key ≡ known (list_any (λ k. bytes_eq k key) keys)
        → cond (bytes_eq key other) (Some (unwrap_or (value blocks other) [])) (value_at (map (with_value blocks) keys) key)
        ≡ known (bytes_eq other key || list_any (λ k. bytes_eq k key) keys)
    by true e rest =
        ap (λ b. cond b (Some (unwrap_or (value blocks other) [])) (value_at (map (with_value blocks) keys) key)) (turned_text key other ∙ e)
        ∙ (ap (λ k. Some (unwrap_or (value blocks k) [])) (same_text other key e)
        ∙ sym (ap (λ b. known (b || list_any (λ k. bytes_eq k key) keys)) e))
    by false e rest =
        ap (λ b. cond b (Some (unwrap_or (value blocks other) [])) (value_at (map (with_value blocks) keys) key)) (turned_text key other ∙ e)
        ∙ (rest ∙ sym (ap (λ b. known (b || list_any (λ k. bytes_eq k key) keys)) e))

value_is : (found : Option (List ℕ)) → cond (is_some found) (Some (unwrap_or found [])) None ≡ found
value_is None = refl
value_is (Some bytes) = refl

-- ---- pairs in the order of their keys are fixed by their look-ups

abbrev Below : List ℕ → List Pair → Type 0
Below key pairs = AllByRecursion (λ k. slice_cmp nat_cmp key k ≡ Less) (keys_of pairs)

apart : (x y : List ℕ) → slice_cmp nat_cmp x y ≡ Less → bytes_eq x y ≡ false
apart x y less = sym (is_eq-slice_cmp x y) ∙ ap is_eq less

not_below : (key : List ℕ) (pairs : List Pair) → Below key pairs → value_at pairs key ≡ None
not_below key [] below = refl
not_below key (pair ∷ pairs) below = ap (λ b. cond b (Some pair.1) (value_at pairs key)) (apart key pair.0 below.0) ∙ not_below key pairs below.1

below_more : (low key : List ℕ) (pairs : List Pair) → slice_cmp nat_cmp low key ≡ Less → Below key pairs → Below low pairs
below_more low key [] less below = tt
below_more low key (pair ∷ pairs) less below = (nat_list_cmp_total.trans low key pair.0 less below.0, below_more low key pairs less below.1)

at_first : (pair : Pair) (pairs : List Pair) → value_at (pair ∷ pairs) pair.0 ≡ Some pair.1
at_first pair pairs = ap (λ b. cond b (Some pair.1) (value_at pairs pair.0)) (text_itself pair.0)

-- a first key that is less than the other's first is not found there
less_first : (x : Pair) (xs : List Pair) (y : Pair) (ys : List Pair) → Below y.0 ys → value_at (x ∷ xs) x.0 ≡ value_at (y ∷ ys) x.0 → slice_cmp nat_cmp x.0 y.0 ≡ Less → ⊥
less_first x xs y ys below same less =
    let none : value_at (y ∷ ys) x.0 ≡ None = not_below x.0 (y ∷ ys) (less, below_more x.0 y.0 ys less below) in
    let found : Some x.1 ≡ None = sym (at_first x xs) ∙ (same ∙ none) in
    cc

-- without equal first keys, the look-ups are the same
tails : (x : Pair) (xs : List Pair) (y : Pair) (ys : List Pair) → Below x.0 xs → Below y.0 ys → x.0 ≡ y.0 → (other : List ℕ) → value_at (x ∷ xs) other ≡ value_at (y ∷ ys) other → (b : Bool)
    → bytes_eq other x.0 ≡ b → value_at xs other ≡ value_at ys other
tails x xs y ys s t key other same true e =
    let is : x.0 ≡ other = sym (same_text other x.0 e) in
    ap (value_at xs) (sym is) ∙ (not_below x.0 xs s ∙ (sym (not_below y.0 ys t) ∙ ap (value_at ys) (sym key ∙ is)))
tails x xs y ys s t key other same false e =
    sym (ap (λ b. cond b (Some x.1) (value_at xs other)) e)
    ∙ (same ∙ ap (λ b. cond b (Some y.1) (value_at ys other)) (ap (bytes_eq other) (sym key) ∙ e))

same_pairs : (xs ys : List Pair) → IsStrictlySortedBy (slice_cmp nat_cmp) (keys_of xs) → IsStrictlySortedBy (slice_cmp nat_cmp) (keys_of ys)
    → ((key : List ℕ) → value_at xs key ≡ value_at ys key) → xs ≡ ys
unfolding IsStrictlySortedBy
same_pairs [] [] s t same = refl
same_pairs [] (y ∷ ys) s t same = absurd (let found : None ≡ Some y.1 = same y.0 ∙ at_first y ys in cc)
same_pairs (x ∷ xs) [] s t same = absurd (let found : Some x.1 ≡ None = sym (at_first x xs) ∙ same x.0 in cc)
same_pairs (x ∷ xs) (y ∷ ys) s t same = (elim (slice_cmp nat_cmp x.0 y.0) as (λ o. slice_cmp nat_cmp x.0 y.0 ≡ o → x ∷ xs ≡ y ∷ ys) [
  | Less ↦ λ e. absurd (less_first x xs y ys t.0 (same x.0) e)
  | Equal ↦ λ e.
      let key : x.0 ≡ y.0 = exact_bytes x.0 y.0 e in
      let found : Some x.1 ≡ Some y.1 = sym (at_first x xs) ∙ (same x.0 ∙ (ap (value_at (y ∷ ys)) key ∙ at_first y ys)) in
      let value : x.1 ≡ y.1 = cc in
      let rest : xs ≡ ys = same_pairs xs ys s.1 t.1 (λ other. tails x xs y ys s.0 t.0 key other (same other) (bytes_eq other x.0) refl) in
      λ i. (key i, value i) ∷ rest i
  | Greater ↦ λ e. absurd (less_first y ys x xs s.0 (sym (same y.0)) (nat_list_cmp_total.antisymm y.0 x.0 ∙ ap ordering_reverse e))
]) refl

-- ---- the pairs

module _ {Y : Type 0} (blocks : List Block) (entries : List (String Y × List ℕ)) (sorted_keys : SortedKeys) (exact_keys : ExactKeys)
    (sorted : IsStrictlySortedBy string_cmp (keys_of entries)) (exact : IsExact (pairs_of entries) blocks) where
  pub pairs_valued : pairs_of entries ≡ map (with_value blocks) (valued_keys blocks)
  pairs_valued =
      same_pairs (pairs_of entries) (map (with_value blocks) (valued_keys blocks)) (pairs_sorted entries sorted)
      (subst (IsStrictlySortedBy (slice_cmp nat_cmp)) (sym (keys_with blocks (valued_keys blocks))) (sorted_keys blocks))
      (λ key. exact key
      ∙ (sym (value_is (value blocks key))
      ∙ (sym (ap (λ b. cond b (Some (unwrap_or (value blocks key) [])) None) (exact_keys blocks key))
      ∙ sym (found_with blocks key (valued_keys blocks)))))

  selected_with : (prefix : List ℕ) (keys : List (List ℕ)) → filter (selects prefix) (map (with_value blocks) keys) ≡ map (with_value blocks) (filter (is_under prefix) keys)
  selected_with prefix [] = refl
  selected_with prefix (key ∷ keys) = elim (is_under prefix key) as (λ b.
      cond b (with_value blocks key ∷ filter (selects prefix) (map (with_value blocks) keys)) (filter (selects prefix) (map (with_value blocks) keys))
      ≡ map (with_value blocks) (cond b (key ∷ filter (is_under prefix) keys) (filter (is_under prefix) keys))) [
        | true ↦ ap (λ rest. with_value blocks key ∷ rest) (selected_with prefix keys)
        | false ↦ selected_with prefix keys
      ]

  pub rows_exact : (prefix : List ℕ) (skip count : ℕ) → rows_of (pairs_of entries) prefix skip count ≡ query blocks (is_under prefix) skip count
  rows_exact prefix skip count =
      let keys = filter (is_under prefix) (valued_keys blocks) in
      ap (λ pairs. rows_of pairs prefix skip count) pairs_valued
      ∙ (ap (λ l. take count (drop skip l)) (selected_with prefix (valued_keys blocks))
      ∙ (ap (take count) (drop-map (with_value blocks) skip keys)
      ∙ take-map (with_value blocks) count (drop skip keys)))

-- what a query that was answered over the pairs that are shown says
pub glance_rows : {Y : Type 0} (exact : Bool) (values : BTreeMap (String Y) (List ℕ)) (blocks : List Block) (prefix : List ℕ) (skip count : ℕ) (rows : List Pair) → SortedKeys → ExactKeys
    → IsOrdered string_cmp values → StandsFor exact (pairs_of values.entries) blocks → rows ≡ rows_of (pairs_of values.entries) prefix skip count
    → exact ≡ true → rows ≡ query blocks (is_under prefix) skip count
glance_rows exact values blocks prefix skip count rows sorted_keys exact_keys sorted stands are is =
    are ∙ rows_exact blocks values.entries sorted_keys exact_keys sorted (stands is) prefix skip count
