use Rattle.mc_model.proofs.Bridge.{kept_reach}
use Rattle.mc_model.proofs.kept.kept_without_gaps_is_reach.Goals as goal

pub returns : goal.returns
returns c = kept_reach
