use Rattle.mc_model.proofs.Repairs.{repaired_alike, repaired_drained, repaired_joins, repaired_start, repaired_walks}
use Rattle.mc_model.proofs.repairing.found_repairs_go_on.Goals as goal

pub returns-clause-begins : goal.returns-clause-begins
returns-clause-begins c = repaired_start

pub returns-clause-joins : goal.returns-clause-joins
returns-clause-joins c = repaired_joins

pub returns-clause-walks : goal.returns-clause-walks
returns-clause-walks c = repaired_walks

pub returns-clause-whole : goal.returns-clause-whole
returns-clause-whole c = repaired_drained

pub returns-clause-alike : goal.returns-clause-alike
returns-clause-alike c = repaired_alike
