use Rattle.std.proofs.Common.{◌++◌, ◌∷◌, [], ap}
use Rattle.mc_node.specs.Items.{is_sealing}
use Rattle.mc_node.proofs.SeatFacts.{begins_given, begins_on, turned}
use Rattle.mc_node.proofs.node.deliveries.Node+Stored+K+J.end_short.Goals as goal

pub deliver_short-error-requires : goal.deliver_short-error-requires
deliver_short-error-requires g c = record { sealed = begins_on is_sealing _ _ c.requires.sealed c.take-held.ensures.taken.seen }

pub returns-clause-sealed : goal.returns-clause-sealed
returns-clause-sealed g c = begins_given is_sealing _ _ _ _ c.take-held.ensures.taken.seen c.deliver_short-error.ensures.extends (ap (λ v. v.seen) c.give.ensures.given) c.requires.sealed

pub returns-clause-turned : goal.returns-clause-turned
returns-clause-turned g c = λ bytes. turned _ _ _ (c.take-held.ensures.held.0 ++ 0 ∷ []) _ _ _ c.take-held.ensures.taken c.take-held.ensures.held.2 c.give.ensures.given c.deliver_short-error.ensures.extends (_, _, c.deliver_short-error.ensures.does bytes)
