use Rattle.mc_model.proofs.GapCount.{gap_count}
use Rattle.mc_model.proofs.laws.gaps_are_counted.Goals as goal

pub returns : goal.returns
returns c = gap_count
