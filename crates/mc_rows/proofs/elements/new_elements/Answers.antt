-- Sorted and rid of repeats.
use Rattle.std.proofs.Common.{List, refl, sym, subst}
use Rattle.std.specs.Ordering.{eq_by_cmp}
use Rattle.std.proofs.lemmas.List.Filters.{dedup_is}
use Rattle.std.proofs.lemmas.List.Kept.{IsStrictlySortedBy-dedup}
use Rattle.mc_model.specs.SameMembers.{SameMembers}
use Rattle.mc_keep.specs.declared.rows.ElementRow.{ElementRow}
use Rattle.mc_rows.specs.declared.elements.NewElement.{NewElement}
use Rattle.mc_rows.specs.Rows.{row_of, rows_of, new_element_cmp, new_element_total}
use Rattle.mc_rows.proofs.Sorts.{sorted_members, key_tied}
use Rattle.mc_rows.proofs.elements.new_elements.Goals as goal

pub returns-clause-sorted : goal.returns-clause-sorted
returns-clause-sorted c =
    rw (dedup_is (eq_by_cmp new_element_cmp) c.sort_unstable.new.self.items c.dedup.new.self.items c.dedup.ensures.filtered)
    (IsStrictlySortedBy-dedup new_element_total (λ x y. refl) c.sort_unstable.new.self.items c.sort_unstable.ensures.sorted)

pub returns-clause-members : goal.returns-clause-members
returns-clause-members c =
    subst (λ (z : List ElementRow). SameMembers (rows_of c.dedup.new.self.items) z) c.in_ok-elements.ensures
    (subst (λ (z : List NewElement). SameMembers (rows_of z) (rows_of c.in_ok-elements.elements.items))
    (sym (dedup_is (eq_by_cmp new_element_cmp) c.sort_unstable.new.self.items c.dedup.new.self.items c.dedup.ensures.filtered))
    (sorted_members new_element_cmp row_of (λ x y e. key_tied (row_of x) (row_of y) e) c.in_ok-elements.elements.items c.sort_unstable.new.self.items c.sort_unstable.ensures.permutation))
