use Rattle.std.proofs.Common.{refl}
use Rattle.mc_core.proofs.Keeps.{still_on}
use Rattle.mc_core.proofs.replica.Replica.reserve_links.Goals as goal

pub returns-in-Err-clause-keeps : goal.returns-in-Err-clause-keeps
returns-in-Err-clause-keeps g c = still_on refl refl refl
