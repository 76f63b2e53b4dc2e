use Rattle.mc_model.proofs.Parts.{parts_stay, queue_drained}
use Rattle.mc_model.proofs.draining.parts_stay_right.Goals as goal

pub returns-clause-stay : goal.returns-clause-stay
returns-clause-stay c = parts_stay

pub returns-clause-drained : goal.returns-clause-drained
returns-clause-drained c = queue_drained
