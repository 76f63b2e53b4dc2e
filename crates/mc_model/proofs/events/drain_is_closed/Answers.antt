use Rattle.mc_model.proofs.Drains.{drain_closure, drain_so_far}
use Rattle.mc_model.proofs.Parts.{all_fit, emptied_drained}
use Rattle.mc_model.proofs.events.drain_is_closed.Goals as goal

pub returns-clause-closed : goal.returns-clause-closed
returns-clause-closed c = drain_closure

pub returns-clause-so_far : goal.returns-clause-so_far
returns-clause-so_far c = drain_so_far

pub returns-clause-parts : goal.returns-clause-parts
returns-clause-parts c = all_fit

pub returns-clause-emptied : goal.returns-clause-emptied
returns-clause-emptied c = emptied_drained
