-- What a binary search finds in rows in their order.
use Rattle.std.proofs.Common.{◌≡◌, ℕ, ◌+◌, ◌<◌, ◌≤◌, length, get_or, true, false, List, [], ◌∷◌, ◌⊎◌, inl, inr, sym, refl, ap, ◌∙◌, arith}
use Rattle.std.specs.Prelude.{Result, Ok, Err}
use Rattle.std.specs.List.{list_any}
use Rattle.std.specs.List.Sorted.{IsStrictlySortedBy, IsNonDecreasingBy, IsPartitionPoint, IsBinarySearchResult, IsSearchInRange}
use Rattle.std.specs.Ordering.{is_lt, is_eq, ordering_index, ordering_reverse}
use Rattle.std.specs.Result.{is_ok}
use Rattle.std.specs.declared.cmp.Ordering.{Ordering}
use Rattle.std.specs.declared.cmp.Ordering.TheVariants.{Less, Equal, Greater}
use Rattle.std.proofs.lemmas.Bool.{cases_lt}
use Rattle.std.proofs.lemmas.List.{get_or_default}
use Rattle.std.proofs.lemmas.List.Folds.{list_any_none, list_any-from_Any}
use Rattle.std.proofs.lemmas.List.Sorted.{searchable_from_sorted}
use Rattle.std.proofs.lemmas.Map.Keys.{Less-from_sorted}
use Rattle.mc_raw.specs.declared.raw.Row.{Row}
use Rattle.mc_raw.specs.RowOrder.{row_cmp, row_total}
use Rattle.mc_audit.specs.Rows.{same_row}

none_equal : (ord : Row → Ordering) (xs : List Row) (i : ℕ) → IsPartitionPoint (λ y. ord y ≡ Less) (λ y. ord y ≡ Greater) xs i → list_any (λ y. is_eq (ord y)) xs ≡ false
none_equal ord xs i point = list_any_none (λ y. is_eq (ord y)) xs (λ k d h. none k d h (cases_lt k i))
  where
    none : (k : ℕ) (d : Row) → k < length xs → (k < i) ⊎ (i ≤ k) → is_eq (ord (get_or xs k d)) ≡ false
    none k d h (inl below) = ap is_eq (point.0 k d (omega arith) below)
    none k d h (inr above) = ap is_eq (point.1 k d above h)

search_finds : (ord : Row → Ordering) (xs : List Row) (r : Result ℕ ℕ) → IsSearchInRange r (length xs) → IsBinarySearchResult ord xs r → IsNonDecreasingBy (λ y. ordering_index (ord y)) xs
    → is_ok r ≡ list_any (λ y. is_eq (ord y)) xs
search_finds ord [] (Ok i) within found rising = absurd (omega (arith, within))
search_finds ord (x ∷ xs) (Ok i) within found rising =
    sym (list_any-from_Any (λ y. is_eq (ord y)) (x ∷ xs) (i, get_or (x ∷ xs) i x, within, get_or_default (x ∷ xs) i (get_or (x ∷ xs) i x) x within, ap is_eq (found x)))
search_finds ord xs (Err i) within found rising = sym (none_equal ord xs i (found rising))

below_back : (o : Ordering) → o ≡ Less → is_lt (ordering_reverse o) ≡ false
below_back Less e = refl
below_back Equal e = refl
below_back Greater e = absurd (let no : false ≡ true = ap is_lt e in cc)

pub row_found : (rows : List Row) (row : Row) (r : Result ℕ ℕ) → IsStrictlySortedBy row_cmp rows → IsSearchInRange r (length rows) → IsBinarySearchResult (λ t. row_cmp t row) rows r
    → is_ok r ≡ list_any (λ other. same_row other row) rows
row_found rows row r sorted within found =
    search_finds (λ t. row_cmp t row) rows r within found
    (searchable_from_sorted row_total (λ t. t) rows row (λ k d low high. ap is_lt (row_total.antisymm (get_or rows (k + 1) d) (get_or rows k d)) ∙ below_back (row_cmp (get_or rows k d) (get_or rows (k + 1) d)) (Less-from_sorted row_cmp rows k (k + 1) d sorted (omega arith) high)))
