use Rattle.mc_model.proofs.Sound.{stays_sound}
use Rattle.mc_model.proofs.events.events_keep.Goals as goal

pub returns-clause-stays : goal.returns-clause-stays
returns-clause-stays c = stays_sound
