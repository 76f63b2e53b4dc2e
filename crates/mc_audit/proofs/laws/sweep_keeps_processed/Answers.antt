use Rattle.mc_audit.proofs.Keeps.{keeps}
use Rattle.mc_audit.proofs.laws.sweep_keeps_processed.Goals as goal

pub returns : goal.returns
returns c = keeps
