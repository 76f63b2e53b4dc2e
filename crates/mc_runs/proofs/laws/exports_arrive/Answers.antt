use Rattle.mc_runs.proofs.Arrivals.{arrive}
use Rattle.mc_runs.proofs.laws.exports_arrive.Goals as goal

pub returns : goal.returns
returns c = arrive
