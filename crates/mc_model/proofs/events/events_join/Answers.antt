use Rattle.mc_model.proofs.Goes.{goes_one, goes_then, goes_sound}
use Rattle.mc_model.proofs.Prefix.{goes_grow}
use Rattle.mc_model.proofs.events.events_join.Goals as goal

pub returns-clause-one : goal.returns-clause-one
returns-clause-one c = goes_one

pub returns-clause-join : goal.returns-clause-join
returns-clause-join c = goes_then

pub returns-clause-sound : goal.returns-clause-sound
returns-clause-sound c = goes_sound

pub returns-clause-grows : goal.returns-clause-grows
returns-clause-grows c = goes_grow
