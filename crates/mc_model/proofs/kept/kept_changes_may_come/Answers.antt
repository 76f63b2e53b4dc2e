use Rattle.mc_model.proofs.MayCome.{may_store, may_process, stays_sound}
use Rattle.mc_model.proofs.kept.kept_changes_may_come.Goals as goal

pub returns-clause-store : goal.returns-clause-store
returns-clause-store c = may_store

pub returns-clause-process : goal.returns-clause-process
returns-clause-process c = may_process

pub returns-clause-sound : goal.returns-clause-sound
returns-clause-sound c = stays_sound
