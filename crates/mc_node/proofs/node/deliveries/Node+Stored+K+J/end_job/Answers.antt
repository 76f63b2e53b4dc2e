use Rattle.std.proofs.Common.{ap, sym, ◌∙◌}
use Rattle.mc_node.specs.Handovers.{giver_view}
use Rattle.mc_node.proofs.HandFacts.{alone_over, hands_found, hands_given, none_taken, nothing_over}
use Rattle.mc_node.proofs.node.deliveries.Node+Stored+K+J.end_job.Goals as goal

pub returns-in-Missing-clause-does : goal.returns-in-Missing-clause-does
returns-in-Missing-clause-does g c = hands_found _ _ _ _ _ _ _ _ _ _ _ c.in-Missing.is (nothing_over _ _ _ _ _ _ _ _ _ (none_taken _ _ c.end_plain.ensures.block c.end_plain.ensures.queued) c.end_plain.ensures.turned)

pub returns-in-None-clause-does : goal.returns-in-None-clause-does
returns-in-None-clause-does g c =
    hands_given _ _ _ _ _ _ _ _ _ _ _ _ (ap giver_view (sym c.take.ensures.value ∙ c.in-None.is)) (ap giver_view c.take.ensures.after)
    (hands_found _ _ _ _ _ _ _ _ _ _ _ c.in-Bytes.is (alone_over _ _ _ _ _ _ _ _ c.end_plain-in-None.ensures.queued c.end_plain-in-None.ensures.committed c.end_plain-in-None.ensures.turned))
