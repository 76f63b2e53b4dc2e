use Rattle.std.proofs.Common.{refl}
use Rattle.mc_core.proofs.Keeps.{still_on}
use Rattle.mc_core.proofs.replica.Replica.inbox_commit.Goals as goal

pub returns-then-self-clause-keeps : goal.returns-then-self-clause-keeps
returns-then-self-clause-keeps g c = still_on refl refl refl

pub returns-in-Err-clause-keeps : goal.returns-in-Err-clause-keeps
returns-in-Err-clause-keeps g c = still_on refl refl refl
