use Rattle.std.proofs.Common.{◌≡◌, ◌∙◌, sym, subst, List}
use Rattle.std.specs.Ordering.{eq_by_cmp}
use Rattle.std.proofs.lemmas.List.Filters.{dedup_is}
use Rattle.mc_model.specs.Ascending.{Ascends}
use Rattle.mc_keep.specs.declared.rows.ElementRow.{ElementRow}
use Rattle.mc_keep.specs.ElementOrder.{element_cmp, element_total}
use Rattle.mc_model.proofs.SortFacts.{sorted_once}
use Rattle.mc_tables.proofs.live.live_elements_of.Goals as goal

pub returns-clause-rows : goal.returns-clause-rows
returns-clause-rows g c =
    let once = sorted_once element_cmp element_total c.ties_are_equal.ensures c.in_ok-rows.rows.items c.sort_unstable.new.self.items c.sort_unstable.ensures.permutation c.sort_unstable.ensures.sorted in
    let rows : c.from_vec.result ≡ _ = c.from_vec.ensures ∙ dedup_is (eq_by_cmp element_cmp) c.sort_unstable.new.self.items c.dedup.new.self.items c.dedup.ensures.filtered in
    subst (λ (z : List ElementRow). Ascends element_cmp c.from_vec.result z) c.in_ok-rows.ensures.rows (subst (λ (z : List ElementRow). Ascends element_cmp z c.in_ok-rows.rows.items) (sym rows) once)
