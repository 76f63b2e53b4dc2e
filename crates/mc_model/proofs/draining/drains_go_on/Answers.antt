use Rattle.mc_model.proofs.Drains.{alike, begins, ends, joins, moved, step}
use Rattle.mc_model.proofs.draining.drains_go_on.Goals as goal

pub returns-clause-begins : goal.returns-clause-begins
returns-clause-begins c = begins

pub returns-clause-step : goal.returns-clause-step
returns-clause-step c = step

pub returns-clause-joins : goal.returns-clause-joins
returns-clause-joins c = joins

pub returns-clause-moved : goal.returns-clause-moved
returns-clause-moved c = moved

pub returns-clause-alike : goal.returns-clause-alike
returns-clause-alike c = alike

pub returns-clause-ends : goal.returns-clause-ends
returns-clause-ends c = ends
