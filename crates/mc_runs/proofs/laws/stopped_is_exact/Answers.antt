use Rattle.mc_runs.proofs.StopFacts.{stopped_exactly}
use Rattle.mc_runs.proofs.laws.stopped_is_exact.Goals as goal

pub returns : goal.returns
returns c = stopped_exactly
