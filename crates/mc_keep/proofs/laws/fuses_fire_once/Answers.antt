use Rattle.mc_keep.proofs.BurningFacts.{fires_not_before, fires_at, spent_after}
use Rattle.mc_keep.proofs.laws.fuses_fire_once.Goals as goal

pub returns-clause-before : goal.returns-clause-before
returns-clause-before c = fires_not_before

pub returns-clause-at : goal.returns-clause-at
returns-clause-at c = fires_at

pub returns-clause-after : goal.returns-clause-after
returns-clause-after c = spent_after
