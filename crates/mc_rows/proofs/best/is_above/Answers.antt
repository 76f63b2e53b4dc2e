use Rattle.std.proofs.Common.{ap}
use Rattle.mc_rows.specs.Values.{placed_best}
use Rattle.mc_rows.proofs.AboveFacts.{above, below}
use Rattle.mc_rows.proofs.best.is_above.Goals as goal

pub returns-in-Some-clause-above : goal.returns-in-Some-clause-above
returns-in-Some-clause-above c = above _ _ _ (ap placed_best c.in-Some.is) _ c.compare.ensures _ c.is_lt.ensures

pub returns-in-Some-clause-below : goal.returns-in-Some-clause-below
returns-in-Some-clause-below c = below _ _ _ (ap placed_best c.in-Some.is) _ c.compare.ensures _ c.is_lt.ensures
