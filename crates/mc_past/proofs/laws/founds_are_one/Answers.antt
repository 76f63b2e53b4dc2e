use Rattle.mc_past.proofs.WalkFacts.{one_found}
use Rattle.mc_past.proofs.laws.founds_are_one.Goals as goal

pub returns : goal.returns
returns c = one_found c.views_are_reach.ensures.value
