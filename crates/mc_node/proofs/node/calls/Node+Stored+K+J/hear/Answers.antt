use Rattle.std.proofs.Common.{ap}
use Rattle.mc_node.proofs.SeatFacts.{open_given}
use Rattle.mc_node.proofs.node.calls.Node+Stored+K+J.hear.Goals as goal

pub returns-clause-open : goal.returns-clause-open
returns-clause-open g c = open_given _ _ _ _ c.take-held.ensures.taken.seen c.hear-result.ensures.extends (ap (λ v. v.seen) c.give.ensures.given)
