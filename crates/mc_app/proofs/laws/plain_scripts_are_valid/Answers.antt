use Rattle.mc_app.proofs.ValidFacts.{plain_is_valid}
use Rattle.mc_app.proofs.laws.plain_scripts_are_valid.Goals as goal

pub returns : goal.returns
returns c = plain_is_valid c.runs_only_grow.ensures.step
