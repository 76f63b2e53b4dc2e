use Rattle.std.proofs.Common.{inl, inr, refl}
use Rattle.mc_node.proofs.FillFacts.{in_seen}
use Rattle.mc_node.proofs.stored.Stored.job_of_pushed.Goals as goal

pub returns-in-Ok-clause-does : goal.returns-in-Ok-clause-does
returns-in-Ok-clause-does g c = inl (record { count = _; mid = _; there = _; gathers = in_seen c.args.limit _ _ _ _ _ _ _ _ _ c.in-Ok.ensures.does; asks = c.first_job.ensures.does })

pub returns-in-Err-clause-does : goal.returns-in-Err-clause-does
returns-in-Err-clause-does g c = inr (record { error = _; gathers = in_seen c.args.limit _ _ _ _ _ _ _ _ _ c.in-Err.ensures.does; is = refl })
