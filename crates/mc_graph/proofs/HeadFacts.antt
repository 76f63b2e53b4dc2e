-- Rows of heads in order.
use Rattle.std.proofs.Common.{◌≡◌, List, [], ◌∷◌, sym, ◌∙◌, subst}
use Rattle.std.specs.List.{dedup, AllByRecursion}
use Rattle.std.specs.List.Retain.{IsFiltered, DiffersFromLast}
use Rattle.std.specs.List.Sorted.{IsSorted, IsPermutation, IsStrictlySortedBy}
use Rattle.std.specs.Ordering.{eq_by_cmp}
use Rattle.std.specs.declared.cmp.Ordering.TheVariants.{Less, Equal}
use Rattle.std.proofs.lemmas.List.Filters.{dedup_is}
use Rattle.mc_model.specs.Ascending.{Ascends}
use Rattle.mc_model.specs.Front.{head_cmp}
use Rattle.mc_model.proofs.Members.{list_any-map}
use Rattle.mc_keep.specs.declared.rows.HeadRow.{HeadRow}
use Rattle.mc_keep.specs.HeadOrder.{head_row_cmp, head_row_total}
use Rattle.mc_keep.specs.Changes.{head_in_row, heads_in_rows}
use Rattle.mc_model.proofs.SortFacts.{sorted_once}
use Rattle.mc_model.proofs.Heads.{head_tied}

row_tied : (x y : HeadRow) → head_row_cmp x y ≡ Equal → x ≡ y
row_tied x y e =
    let same = head_tied (head_in_row x) (head_in_row y) e in
    λ i. record { cid = (same i).0; height = (same i).1 }

below_map : (x : HeadRow) (ys : List HeadRow) → AllByRecursion (λ y. head_row_cmp x y ≡ Less) ys → AllByRecursion (λ y. head_cmp (head_in_row x) y ≡ Less) (heads_in_rows ys)
below_map x [] b = b
below_map x (y ∷ ys) b = (b.0, below_map x ys b.1)

sorted_map : (rows : List HeadRow) → IsStrictlySortedBy head_row_cmp rows → IsStrictlySortedBy head_cmp (heads_in_rows rows)
unfolding IsStrictlySortedBy
sorted_map [] s = s
sorted_map (x ∷ rows) s = (below_map x rows s.0, sorted_map rows s.1)

pub heads_once : (rows sorted once : List HeadRow) → IsPermutation rows sorted → IsSorted head_row_cmp sorted → IsFiltered (DiffersFromLast (eq_by_cmp head_row_cmp)) [] sorted once
    → Ascends head_cmp (heads_in_rows once) (heads_in_rows rows)
heads_once rows sorted once moved order filtered =
    let ascends = sorted_once head_row_cmp head_row_total row_tied rows sorted moved order in
    subst (λ (z : List HeadRow). Ascends head_cmp (heads_in_rows z) (heads_in_rows rows)) (sym (dedup_is (eq_by_cmp head_row_cmp) sorted once filtered)) (record {
      sorted = sorted_map (dedup (eq_by_cmp head_row_cmp) sorted) ascends.sorted;
      members = record { same = λ test. list_any-map test head_in_row (dedup (eq_by_cmp head_row_cmp) sorted) ∙ ascends.members.same (λ row. test (head_in_row row)) ∙ sym (list_any-map test head_in_row rows) };
    })
