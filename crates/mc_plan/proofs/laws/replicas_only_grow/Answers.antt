use Rattle.mc_base.specs.Causes.{Rose}
use Rattle.mc_plan.proofs.GrowthFacts.{goes_grows, breaks_grows}
use Rattle.mc_plan.proofs.laws.replicas_only_grow.Goals as goal

pub returns-clause-goes : goal.returns-clause-goes
returns-clause-goes c = goes_grows c.order_and_store_grow.ensures

pub returns-clause-breaks : goal.returns-clause-breaks
returns-clause-breaks c = λ events before now s new. breaks_grows c.order_and_store_grow.ensures events (Rose before now) s new
