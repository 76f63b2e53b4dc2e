use Rattle.mc_past.proofs.PastFacts.{past_stays}
use Rattle.mc_past.proofs.laws.pasts_stay_fit.Goals as goal

pub returns : goal.returns
returns c = past_stays
