use Rattle.std.proofs.Common.{ap, ◌∷◌, []}
use Rattle.mc_node.proofs.SeatFacts.{open_given, turned}
use Rattle.mc_node.proofs.node.reads.Node+Stored+K+J.try_get.Goals as goal

pub returns-in-Ok-result-clause-open : goal.returns-in-Ok-result-clause-open
returns-in-Ok-result-clause-open g c = open_given _ _ _ _ c.in-Ok.ensures.taken.seen c.get-result.ensures.extends (ap (λ v. v.seen) c.give.ensures.given)

pub returns-in-Ok-result-clause-turned : goal.returns-in-Ok-result-clause-turned
returns-in-Ok-result-clause-turned g c = turned _ _ _ (0 ∷ []) _ _ _ c.in-Ok.ensures.taken c.in-Ok.ensures.held c.give.ensures.given c.in-Ok-result.ensures.extends c.in-Ok-result.ensures.does

pub returns-in-Err-result-clause-open : goal.returns-in-Err-result-clause-open
returns-in-Err-result-clause-open g c = open_given _ _ _ _ c.in-Ok.ensures.taken.seen c.get-result.ensures.extends (ap (λ v. v.seen) c.give.ensures.given)
