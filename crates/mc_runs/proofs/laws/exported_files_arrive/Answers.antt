use Rattle.mc_runs.proofs.PassedFacts.{files_arrive}
use Rattle.mc_runs.proofs.laws.exported_files_arrive.Goals as goal

pub returns : goal.returns
returns c = files_arrive c.kept_is_durable.ensures.back c.cars_are_read.ensures.read
