use Rattle.mc_write.proofs.DroppedFacts.{both_empty}
use Rattle.mc_write.proofs.batch.Batch.is_empty.Goals as goal

pub returns-then-is_empty : goal.returns-then-is_empty
returns-then-is_empty c =
    rw (← c.self.view_is) (both_empty c.self.inside.elements.entries c.self.inside.dropped.entries c.is_empty-then-is_empty.result (c.is_empty.ensures.0 c.if-is_empty.true) c.is_empty-then-is_empty.ensures c.self.invariant.2)
