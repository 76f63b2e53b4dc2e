use Rattle.mc_runs.proofs.PromiseFacts.{step_others}
use Rattle.mc_runs.proofs.laws.others_stay.Goals as goal

pub returns : goal.returns
returns c = step_others
