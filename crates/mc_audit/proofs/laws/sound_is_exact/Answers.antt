use Rattle.mc_audit.proofs.Exact.{sound_from, from_sound}
use Rattle.mc_audit.proofs.laws.sound_is_exact.Goals as goal

pub returns : goal.returns
returns c = λ t. (sound_from t, from_sound t)
