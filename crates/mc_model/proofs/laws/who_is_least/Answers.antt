use Rattle.mc_model.proofs.WhoFacts.{who_is_least}
use Rattle.mc_model.proofs.laws.who_is_least.Goals as goal

pub returns : goal.returns
returns c = who_is_least
