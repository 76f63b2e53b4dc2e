use Rattle.std.proofs.Common.{sym, subst, List}
use Rattle.mc_model.specs.Ascending.{Ascends}
use Rattle.mc_model.specs.Front.{Head, head_cmp}
use Rattle.mc_keep.specs.declared.rows.HeadRow.{HeadRow}
use Rattle.mc_keep.specs.Changes.{heads_in_rows}
use Rattle.mc_graph.proofs.HeadFacts.{heads_once}
use Rattle.mc_graph.proofs.heads.head_rows.Goals as goal

pub returns-clause-rows : goal.returns-clause-rows
returns-clause-rows c =
    subst (λ (z : List Head). Ascends head_cmp (heads_in_rows c.from_vec.result) z) c.in_ok-rows.ensures.rows
    (subst (λ (z : List HeadRow). Ascends head_cmp (heads_in_rows z) (heads_in_rows c.in_ok-rows.rows.items)) (sym c.from_vec.ensures)
    (heads_once c.in_ok-rows.rows.items c.sort_unstable.new.self.items c.dedup.new.self.items c.sort_unstable.ensures.permutation c.sort_unstable.ensures.sorted c.dedup.ensures.filtered))
