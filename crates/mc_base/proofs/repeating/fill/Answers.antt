use Rattle.std.proofs.Common.{refl}
use Rattle.mc_base.proofs.FillFacts.{fill_next}
use Rattle.mc_base.proofs.repeating.fill.Goals as goal

pub loop-i-preserved : goal.loop-i-preserved
loop-i-preserved c = rw c.place_after-at.ensures (fill_next _ _ _ _ _ _ _ c.loop-i.invariant c.loop-i-test.true refl)
