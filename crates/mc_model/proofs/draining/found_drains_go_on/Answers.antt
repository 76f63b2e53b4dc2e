use Rattle.mc_model.proofs.Takings.{taken_alike, taken_all, taken_closure, taken_joins, taken_so_far, taken_start}
use Rattle.mc_model.proofs.draining.found_drains_go_on.Goals as goal

pub returns-clause-begins : goal.returns-clause-begins
returns-clause-begins c = taken_start

pub returns-clause-goes : goal.returns-clause-goes
returns-clause-goes c = taken_all

pub returns-clause-joins : goal.returns-clause-joins
returns-clause-joins c = taken_joins

pub returns-clause-alike : goal.returns-clause-alike
returns-clause-alike c = taken_alike

pub returns-clause-closed : goal.returns-clause-closed
returns-clause-closed c = taken_closure

pub returns-clause-so_far : goal.returns-clause-so_far
returns-clause-so_far c = taken_so_far
