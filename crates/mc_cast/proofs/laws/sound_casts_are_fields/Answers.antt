use Rattle.mc_cast.proofs.LawFacts.{sound_whole}
use Rattle.mc_cast.proofs.laws.sound_casts_are_fields.Goals as goal

pub returns : goal.returns
returns c text = sound_whole text
