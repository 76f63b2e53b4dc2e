use Rattle.std.proofs.Common.{◌++◌, ◌∷◌, [], ap}
use Rattle.mc_node.specs.Items.{is_sealing}
use Rattle.mc_node.proofs.SeatFacts.{begins_given, begins_on, turned}
use Rattle.mc_node.proofs.node.ahead.Node+Stored+K+J.take_jobs.Goals as goal

pub next_jobs-result-requires-clause-sealed : goal.next_jobs-result-requires-clause-sealed
next_jobs-result-requires-clause-sealed g c = begins_on is_sealing _ _ c.requires.sealed c.take-held.ensures.taken.seen

pub returns-clause-sealed : goal.returns-clause-sealed
returns-clause-sealed g c = begins_given is_sealing _ _ _ _ c.take-held.ensures.taken.seen c.next_jobs-result.ensures.extends (ap (λ v. v.seen) c.give.ensures.given) c.requires.sealed

pub returns-clause-turned : goal.returns-clause-turned
returns-clause-turned g c = turned _ _ _ (c.take-held.ensures.held.0 ++ 0 ∷ []) _ _ _ c.take-held.ensures.taken c.take-held.ensures.held.2 c.give.ensures.given c.next_jobs-result.ensures.extends (_, _, c.next_jobs-result.ensures.does)
