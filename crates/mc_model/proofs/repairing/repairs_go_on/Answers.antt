use Rattle.mc_model.proofs.Repairs.{repaired_begins, repaired_ends, repaired_whole, repairing_run}
use Rattle.mc_model.proofs.repairing.repairs_go_on.Goals as goal

pub returns-clause-begins : goal.returns-clause-begins
returns-clause-begins c = repaired_begins

pub returns-clause-step : goal.returns-clause-step
returns-clause-step c = repairing_run

pub returns-clause-whole : goal.returns-clause-whole
returns-clause-whole c = repaired_whole

pub returns-clause-ends : goal.returns-clause-ends
returns-clause-ends c = repaired_ends
