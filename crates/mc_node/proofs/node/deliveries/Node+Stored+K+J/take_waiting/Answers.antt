use Rattle.std.proofs.Common.{◌++◌, ◌∷◌, [], ap}
use Rattle.mc_node.specs.Items.{is_sealing}
use Rattle.mc_node.proofs.HandFacts.{committed_taken, no_queued, turned_taken}
use Rattle.mc_node.proofs.SeatFacts.{begins_given, begins_on}
use Rattle.mc_node.proofs.node.deliveries.Node+Stored+K+J.take_waiting.Goals as goal

pub take_with-result-requires-clause-sealed : goal.take_with-result-requires-clause-sealed
take_with-result-requires-clause-sealed g c = begins_on is_sealing _ _ c.requires.sealed c.take-held.ensures.taken.seen

pub returns-clause-sealed : goal.returns-clause-sealed
returns-clause-sealed g c = begins_given is_sealing _ _ _ _ c.take-held.ensures.taken.seen c.take_with-result.ensures.extends (ap (λ v. v.seen) c.give.ensures.given) c.requires.sealed

pub returns-clause-queued : goal.returns-clause-queued
returns-clause-queued g c = rw c.committed.ensures (no_queued _ _)

pub returns-clause-committed : goal.returns-clause-committed
returns-clause-committed g c = committed_taken _ _ _ _ _ _ (c.take-held.ensures.held.0 ++ 0 ∷ []) _ _ c.committed.ensures c.take-held.ensures.taken c.take-held.ensures.held.2 c.give.ensures.given c.take_with-result.ensures.commits

pub returns-clause-turned : goal.returns-clause-turned
returns-clause-turned g c = λ bytes. turned_taken _ _ bytes _ _ _ _ _ (c.take-held.ensures.held.0 ++ 0 ∷ []) _ _ _ c.committed.ensures c.take-held.ensures.taken c.take-held.ensures.held.2 c.give.ensures.given c.take_with-result.ensures.extends (_, _, c.take_with-result.ensures.does)
