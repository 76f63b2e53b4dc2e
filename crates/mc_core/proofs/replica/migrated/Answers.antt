use Rattle.mc_core.proofs.LaidFacts.{one_error}
use Rattle.mc_core.proofs.replica.migrated.Goals as goal

pub returns-in-Err-Failed-clause-refused : goal.returns-in-Err-Failed-clause-refused
returns-in-Err-Failed-clause-refused g c = (c.in-Err-Failed.ensures.same, rw c.in-Err-Failed.field-0-is at c.in-Err-Failed.ensures.goes)

pub returns-in-Err-Memory-clause-refused : goal.returns-in-Err-Memory-clause-refused
returns-in-Err-Memory-clause-refused g c = (c.in-Err-Memory.ensures.same, rw c.in-Err-Memory.field-0-is at c.in-Err-Memory.ensures.goes)

pub returns-in-Err-Memory-clause-refused_at_two : goal.returns-in-Err-Memory-clause-refused_at_two
returns-in-Err-Memory-clause-refused_at_two g c = λ two. one_error c.in-Err-Memory.field-0 c.in-Err-Memory.field-0-is (c.in-Err-Memory.ensures.no_memory two)
