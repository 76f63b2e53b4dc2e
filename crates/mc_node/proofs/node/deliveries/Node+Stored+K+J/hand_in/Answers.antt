use Rattle.std.proofs.Common.{refl, ap}
use Rattle.mc_block.specs.declared.verified.Verified.{Verified}
use Rattle.mc_fetch.specs.declared.job.Found.TheVariants as found
use Rattle.mc_node.proofs.HandFacts.{full_over, hands_as, pushed_over}
use Rattle.mc_node.proofs.node.deliveries.Node+Stored+K+J.hand_in.Goals as goal

pub returns-in-Ok-clause-does : goal.returns-in-Ok-clause-does
returns-in-Ok-clause-does g c = pushed_over _ _ _ _ _ _ _ _ _ _ (record { item = c.args.item; cid_same = refl; bytes_same = refl; is = c.in-Ok.ensures.pushed }) c.take_or_leave.ensures.tried c.take_or_leave.ensures.queued c.take_or_leave.ensures.committed (c.take_or_leave.ensures.turned (found.Bytes c.args.item.bytes))

pub returns-in-Err-clause-does : goal.returns-in-Err-clause-does
returns-in-Err-clause-does g c =
    hands_as _ c.in-Err.item.cid _ c.in-Err.item.bytes _ _ _ _ _ _ _ _ (ap (λ (v : Verified). v.cid) c.in-Err.ensures.back) (ap (λ (v : Verified). v.bytes) c.in-Err.ensures.back)
    (full_over _ _ _ _ _ _ _ _ _ _ c.in-Err.ensures.noted c.take_waiting.ensures.queued c.take_waiting.ensures.committed (c.take_waiting.ensures.turned (found.Bytes c.in-Err.item.bytes)))
