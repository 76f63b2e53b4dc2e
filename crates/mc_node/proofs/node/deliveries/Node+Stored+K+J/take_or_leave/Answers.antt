use Rattle.std.proofs.Common.{◌∷◌, [], ◌∙◌, ap}
use Rattle.mc_node.specs.Items.{is_sealing}
use Rattle.mc_node.proofs.HandFacts.{committed_taken, no_queued, turned_taken}
use Rattle.mc_node.proofs.SeatFacts.{begins_given, begins_on}
use Rattle.mc_node.proofs.node.deliveries.Node+Stored+K+J.take_or_leave.Goals as goal

pub take_pushed-result-requires-clause-sealed : goal.take_pushed-result-requires-clause-sealed
take_pushed-result-requires-clause-sealed g c = begins_on is_sealing _ _ c.requires.sealed c.in-Ok.ensures.taken.seen

pub returns-in-Ok-clause-sealed : goal.returns-in-Ok-clause-sealed
returns-in-Ok-clause-sealed g c = begins_given is_sealing _ _ _ _ c.in-Ok.ensures.taken.seen c.take_pushed-result.ensures.extends (ap (λ v. v.seen) c.give.ensures.given) c.requires.sealed

pub returns-in-Ok-clause-tried : goal.returns-in-Ok-clause-tried
returns-in-Ok-clause-tried g c = (0, ap (λ v. v.tried) c.give.ensures.given ∙ ap (λ v. v.tried) c.in-Ok.ensures.held)

pub returns-in-Ok-clause-queued : goal.returns-in-Ok-clause-queued
returns-in-Ok-clause-queued g c = rw c.committed.ensures (no_queued _ _)

pub returns-in-Ok-clause-committed : goal.returns-in-Ok-clause-committed
returns-in-Ok-clause-committed g c = committed_taken _ _ _ _ _ _ (0 ∷ []) _ _ c.committed.ensures c.in-Ok.ensures.taken c.in-Ok.ensures.held c.give.ensures.given c.take_pushed-result.ensures.commits

pub returns-in-Ok-clause-turned : goal.returns-in-Ok-clause-turned
returns-in-Ok-clause-turned g c = λ bytes. turned_taken _ _ bytes _ _ _ _ _ (0 ∷ []) _ _ _ c.committed.ensures c.in-Ok.ensures.taken c.in-Ok.ensures.held c.give.ensures.given c.take_pushed-result.ensures.extends (_, _, c.take_pushed-result.ensures.does)
