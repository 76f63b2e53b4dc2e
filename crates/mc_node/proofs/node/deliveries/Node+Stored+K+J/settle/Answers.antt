use Rattle.std.proofs.Common.{ap}
use Rattle.mc_node.specs.Items.{is_sealing}
use Rattle.mc_node.proofs.SeatFacts.{begins_given, begins_on, seen_given}
use Rattle.mc_node.proofs.node.deliveries.Node+Stored+K+J.settle.Goals as goal

pub settle-requires-clause-sealed : goal.settle-requires-clause-sealed
settle-requires-clause-sealed g c = begins_on is_sealing _ _ c.requires.sealed c.take-held.ensures.taken.seen

pub returns-clause-seen : goal.returns-clause-seen
returns-clause-seen g c = seen_given _ _ _ _ c.take-held.ensures.taken.seen c.settle.ensures.extends (ap (λ v. v.seen) c.give.ensures.given)

pub returns-clause-sealed : goal.returns-clause-sealed
returns-clause-sealed g c = begins_given is_sealing _ _ _ _ c.take-held.ensures.taken.seen c.settle.ensures.extends (ap (λ v. v.seen) c.give.ensures.given) c.requires.sealed
