use Rattle.mc_model.proofs.Prefix.{goes_on}
use Rattle.mc_model.proofs.events.order_and_store_grow.Goals as goal

pub returns : goal.returns
returns c = goes_on
