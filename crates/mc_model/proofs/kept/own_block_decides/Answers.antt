use Rattle.mc_model.proofs.Bridge.{own_found}
use Rattle.mc_model.proofs.kept.own_block_decides.Goals as goal

pub returns : goal.returns
returns c = own_found
