use Rattle.mc_keep.proofs.ElementTies.{element_tied}
use Rattle.mc_keep.proofs.laws.ties_are_equal.Goals as goal

pub returns : goal.returns
returns c = element_tied
