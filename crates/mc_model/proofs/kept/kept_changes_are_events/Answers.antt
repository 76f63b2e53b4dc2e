use Rattle.mc_model.proofs.Bridge.{kept_mark}
use Rattle.mc_model.proofs.Commits.{store_is, process_is, walk_end_is}
use Rattle.mc_model.proofs.kept.kept_changes_are_events.Goals as goal

pub returns-clause-store : goal.returns-clause-store
returns-clause-store c = store_is

pub returns-clause-process : goal.returns-clause-process
returns-clause-process c = process_is

pub returns-clause-walk_end : goal.returns-clause-walk_end
returns-clause-walk_end c = walk_end_is

pub returns-clause-mark : goal.returns-clause-mark
returns-clause-mark c = kept_mark
