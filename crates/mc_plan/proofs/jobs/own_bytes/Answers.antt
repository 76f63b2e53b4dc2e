use Rattle.mc_plan.proofs.JobFacts.{own_told}
use Rattle.mc_plan.proofs.jobs.own_bytes.Goals as goal

pub returns-clause-own : goal.returns-clause-own
returns-clause-own g c = own_told _ _ _ c.args.cid.now c.is_sound.ensures c.in_ok-stored.ensures.row c.with_digest.ensures.kept
