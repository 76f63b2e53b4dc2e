use Rattle.std.proofs.Common.{refl, sym, ◌∙◌}
use Rattle.mc_plan.proofs.DeliverFacts.{deliver_known}
use Rattle.mc_core.proofs.Keeps.{still_on}
use Rattle.mc_core.specs.Replica.{running_of}
use Rattle.mc_core.proofs.replica.Replica.deliver.Goals as goal

pub returns-then-self-clause-keeps : goal.returns-then-self-clause-keeps
returns-then-self-clause-keeps g c = still_on refl refl refl

pub returns-clause-keeps : goal.returns-clause-keeps
returns-clause-keeps g c = still_on refl refl refl
