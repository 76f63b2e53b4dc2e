use Rattle.std.proofs.Common.{refl}
use Rattle.mc_fetch.specs.declared.job.Found.TheVariants as found
use Rattle.mc_node.proofs.HandFacts.{hands_as, nothing_over, refused_taken}
use Rattle.mc_node.proofs.node.deliveries.Node+Stored+K+J.end_found.Goals as goal

pub returns-in-Ok-clause-does : goal.returns-in-Ok-clause-does
returns-in-Ok-clause-does g c = hands_as _ _ _ _ _ _ _ _ _ _ _ _ c.in-Ok.ensures.same.0 c.in-Ok.ensures.same.1 c.hand_in.ensures.does

pub returns-in-Damaged-clause-does : goal.returns-in-Damaged-clause-does
returns-in-Damaged-clause-does g c =
    hands_as _ _ _ c.in-Err.refused.bytes _ _ _ _ _ _ _ _ refl c.in-Err.ensures.back
    (nothing_over _ _ _ _ _ _ _ _ _ (refused_taken _ _ _ _ _ _ c.in-Err.ensures.damaged c.in-Damaged.is c.in-Err.ensures.back c.end_plain.ensures.block c.end_plain.ensures.queued) c.end_plain.ensures.turned)

pub returns-in-Memory-clause-does : goal.returns-in-Memory-clause-does
returns-in-Memory-clause-does g c = nothing_over _ _ _ _ _ _ _ _ _ c.end_short.ensures.fails (c.end_short.ensures.turned (found.Bytes c.args.bytes))
