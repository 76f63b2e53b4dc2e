use Rattle.mc_worker.proofs.WorkerFacts.{zipped}
use Rattle.mc_worker.proofs.hands.run_workers.Goals as goal

pub returns : goal.returns
returns g c = record { worked = zipped _ _ _ c.run_each.ensures.length c.run_each.ensures.worked }
