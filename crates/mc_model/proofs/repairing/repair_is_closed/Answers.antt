use Rattle.mc_model.proofs.Repairs.{repaired_closure}
use Rattle.mc_model.proofs.repairing.repair_is_closed.Goals as goal

pub returns : goal.returns
returns c = repaired_closure
