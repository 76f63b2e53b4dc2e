use Rattle.mc_audit.proofs.SweepFacts.{left_is}
use Rattle.mc_audit.proofs.laws.sweep_leaves_the_rest.Goals as goal

pub returns : goal.returns
returns c = left_is
