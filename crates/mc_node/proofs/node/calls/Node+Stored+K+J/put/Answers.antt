use Rattle.std.proofs.Common.{ap}
use Rattle.mc_node.specs.Items.{is_unsealed}
use Rattle.mc_node.proofs.SeatFacts.{begins_on, open_given}
use Rattle.mc_node.proofs.node.calls.Node+Stored+K+J.put.Goals as goal

pub returns-clause-open : goal.returns-clause-open
returns-clause-open g c = open_given _ _ _ _ c.take-held.ensures.taken.seen c.put-result.ensures.extends (ap (λ v. v.seen) c.give.ensures.given)

pub put-result-requires : goal.put-result-requires
put-result-requires g c = record { unsealed = begins_on is_unsealed _ _ c.requires.unsealed c.take-held.ensures.taken.seen }
