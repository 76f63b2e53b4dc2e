-- The rows of one key: none, a single one, or a heap.
use Rattle.std.proofs.Common.{◌≡◌, ℕ, Bool, true, false, ◌||◌, List, [], ◌∷◌, Option, Some, refl, sym, ap, subst, rules}
use Rattle.std.specs.BinaryHeap.{IsHeap}
use Rattle.std.specs.Ordering.{is_eq, is_lt}
use Rattle.std.specs.declared.cmp.Ordering.{Ordering}
use Rattle.std.specs.declared.cmp.Ordering.TheVariants.{Less, Equal, Greater}
use Rattle.std.specs.List.Sorted.{IsPermutation}
use Rattle.std.proofs.lemmas.Cmp.{eq_by_cmp_equiv}
use Rattle.std.proofs.lemmas.List.Sorted.{IsPermutation-cons, IsPermutation-trans}
use Rattle.mc_live.specs.Order.{row_cmp, row_total}
use Rattle.mc_live.specs.Prune.{Prunes}
use Rattle.mc_live.specs.Rows.{IsFirst, is_shown}
use Rattle.mc_live.specs.declared.order.Row.{Row}

pub no_heap : IsHeap row_cmp []
unfolding IsHeap
no_heap = search rules

pub one_heap : (row : Row) → IsHeap row_cmp (row ∷ [])
unfolding IsHeap
one_heap row = search rules

-- no row is less than itself
not_less : (row : Row) → is_lt (row_cmp row row) ≡ false
not_less row = by (row_cmp row row) ((eq_by_cmp_equiv row_total).refl row)
  where
    by : (o : Ordering) → is_eq o ≡ true → is_lt o ≡ false
    by Less e = absurd (let f : false ≡ true = e in cc)
    by Equal e = refl
    by Greater e = refl

pub one_first : (row : Row) (value : List ℕ) → value ≡ row.value → IsFirst (row ∷ []) (Some value)
one_first row value told = record { value_is = ap (λ z. Some z) told; bound = λ heap. (not_less row, tt) }

-- a row that isn't shown is let go
pub drops_one : (hidden : List ℕ → Bool) (ids : List (Option (List ℕ))) (row : Row) → is_shown hidden ids row ≡ false → Prunes hidden ids (row ∷ []) []
drops_one hidden ids row gone = record { rest = λ test of. sym (ap (λ b. b || false) (of row gone)); fewer = λ test none. refl; heap = λ was. no_heap; top = tt }

-- two rows that are added one after the other
pub both_added : (first row : Row) (none one two : List Row) → none ≡ [] → IsPermutation (first ∷ none) one → IsPermutation (row ∷ one) two → IsPermutation (row ∷ first ∷ []) two
both_added first row none one two is p q = IsPermutation-trans (row ∷ first ∷ []) (row ∷ one) two (IsPermutation-cons row (first ∷ []) one (subst (λ (z : List Row). IsPermutation (first ∷ z) one) is p)) q
