use Rattle.mc_keep.proofs.Processed.{processed_after}
use Rattle.mc_keep.proofs.Fitting.{store_fits, stored_after, store_processes_nothing, mark_fits, marked_after, mark_processes_nothing, process_fits}
use Rattle.mc_keep.proofs.laws.changes_fit.Goals as goal

pub returns-clause-store : goal.returns-clause-store
returns-clause-store c = store_fits

pub returns-clause-stored : goal.returns-clause-stored
returns-clause-stored c = stored_after

pub returns-clause-same : goal.returns-clause-same
returns-clause-same c = store_processes_nothing

pub returns-clause-mark : goal.returns-clause-mark
returns-clause-mark c = mark_fits

pub returns-clause-marked : goal.returns-clause-marked
returns-clause-marked c = marked_after

pub returns-clause-same_marked : goal.returns-clause-same_marked
returns-clause-same_marked c = mark_processes_nothing

pub returns-clause-process : goal.returns-clause-process
returns-clause-process c = process_fits

pub returns-clause-processed : goal.returns-clause-processed
returns-clause-processed c = processed_after
