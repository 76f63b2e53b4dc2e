use Rattle.mc_runs.proofs.OneFacts.{runs_one}
use Rattle.mc_runs.proofs.laws.runs_are_one.Goals as goal

pub returns : goal.returns
returns c = λ armed. runs_one armed (record { back = c.kept_is_durable.ensures.back; exports = c.exports_are_one.ensures; founds = c.founds_are_one.ensures })
