use Rattle.std.proofs.Common.{List, Some, ap, subst, sym}
use Rattle.mc_live.specs.Rows.{IsFirst, items_of}
use Rattle.mc_live.specs.declared.order.Row.{Row}
use Rattle.mc_live.proofs.HeldFacts.{one_first}
use Rattle.mc_live.proofs.live.first_of.Goals as goal

pub returns-in-One : goal.returns-in-One
returns-in-One c =
    subst (λ (z : List Row). IsFirst z (Some c.as_slice.result.now)) (sym (ap items_of c.in-One.is)) (one_first c.in-One.row c.as_slice.result.now c.as_slice.ensures)
