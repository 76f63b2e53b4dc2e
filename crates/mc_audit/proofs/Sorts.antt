-- Rows in their order.
use Rattle.std.proofs.Common.{◌≡◌, List, sym, ◌∙◌, subst, []}
use Rattle.std.specs.List.Retain.{IsFiltered, DiffersFromLast}
use Rattle.std.specs.List.Sorted.{IsSorted, IsPermutation}
use Rattle.std.specs.Cmp.Lexicographic.{slice_cmp}
use Rattle.std.specs.Ordering.{eq_by_cmp, nat_cmp}
use Rattle.std.specs.declared.cmp.Ordering.TheVariants.{Equal}
use Rattle.std.specs.FinMap.{nat_cmp-IsAntisymmetric}
use Rattle.std.proofs.lemmas.List.Filters.{dedup_is}
use Rattle.std.proofs.lemmas.Map.Lookups.{exact_bytes}
use Rattle.mc_base.proofs.Orders.{then_equal}
use Rattle.mc_model.specs.Ascending.{ascending, Ascends}
use Rattle.mc_model.specs.SameMembers.{SameMembers}
use Rattle.mc_model.proofs.Ascending.{ascends_is, ascending_ascends}
use Rattle.mc_model.proofs.SortFacts.{sorted_once}
use Rattle.mc_raw.specs.declared.raw.Row.{Row}
use Rattle.mc_raw.specs.RowOrder.{row_cmp, row_total}

pub row_tied : (x y : Row) → row_cmp x y ≡ Equal → x ≡ y
row_tied x y e =
    let last = then_equal _ (nat_cmp x.n y.n) e in
    let third = then_equal _ (slice_cmp nat_cmp x.c y.c) last.0 in
    let first = then_equal (slice_cmp nat_cmp x.a y.a) (slice_cmp nat_cmp x.b y.b) third.0 in
    let a : x.a ≡ y.a = exact_bytes x.a y.a first.0 in
    let b : x.b ≡ y.b = exact_bytes x.b y.b first.1 in
    let c : x.c ≡ y.c = exact_bytes x.c y.c third.1 in
    let n : x.n ≡ y.n = nat_cmp-IsAntisymmetric x.n y.n last.1 in
    λ i. record { a = a i; b = b i; c = c i; n = n i }

-- sorted and rid of repeats
pub rows_once : (items sorted once : List Row) → IsPermutation items sorted → IsSorted row_cmp sorted → IsFiltered (DiffersFromLast (eq_by_cmp row_cmp)) [] sorted once → Ascends row_cmp once items
rows_once items sorted once moved order filtered =
    subst (λ (z : List Row). Ascends row_cmp z items) (sym (dedup_is (eq_by_cmp row_cmp) sorted once filtered)) (sorted_once row_cmp row_total row_tied items sorted moved order)

pub in_order_is : (items once : List Row) → Ascends row_cmp once items → once ≡ ascending row_cmp items
in_order_is items once ascends = ascends_is row_cmp row_total row_tied once items ascends

-- the order of rows depends on their members alone
pub same_order : (xs ys : List Row) → SameMembers xs ys → ascending row_cmp xs ≡ ascending row_cmp ys
same_order xs ys same =
    let own = ascending_ascends row_cmp row_total row_tied xs in
    ascends_is row_cmp row_total row_tied (ascending row_cmp xs) ys (record { sorted = own.sorted; members = record { same = λ test. own.members.same test ∙ same.same test } })
