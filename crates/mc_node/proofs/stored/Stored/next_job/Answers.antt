use Rattle.std.proofs.Common.{None, inl, inr, refl}
use Rattle.mc_node.proofs.TakeFacts.{next_as}
use Rattle.mc_node.proofs.stored.Stored.next_job.Goals as goal

pub returns-in-Ok-None-clause-does : goal.returns-in-Ok-None-clause-does
returns-in-Ok-None-clause-does g c = inr (record { mid = _; there = _; none = next_as c.args.limit _ None _ _ _ _ c.in-Ok-None.field-0-is c.in-Ok-None.ensures.does; then_does = c.job_of_pushed.ensures.does })

pub returns-in-Ok-Some-clause-does : goal.returns-in-Ok-Some-clause-does
returns-in-Ok-Some-clause-does g c = inl (record { asks = next_as c.args.limit _ _ _ _ _ _ c.in-Ok-Some.field-0-is c.in-Ok-Some.ensures.does; some = refl })

pub returns-in-Err-clause-does : goal.returns-in-Err-clause-does
returns-in-Err-clause-does g c = inl (record { asks = c.in-Err.ensures.does; some = refl })
