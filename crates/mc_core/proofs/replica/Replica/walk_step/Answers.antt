use Rattle.std.proofs.Common.{refl}
use Rattle.mc_core.proofs.Keeps.{still_on}
use Rattle.mc_core.proofs.replica.Replica.walk_step.Goals as goal

pub returns-then-self-clause-keeps : goal.returns-then-self-clause-keeps
returns-then-self-clause-keeps g c = still_on refl refl refl

pub returns-then-self-2-clause-keeps : goal.returns-then-self-2-clause-keeps
returns-then-self-2-clause-keeps g c = still_on refl refl refl
