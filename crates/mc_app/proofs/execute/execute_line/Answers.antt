use Rattle.mc_seats.proofs.StayFacts.{all_stay}
use Rattle.mc_app.proofs.execute.execute_line.Goals as goal

pub returns-in-Ok-None-clause-desks : goal.returns-in-Ok-None-clause-desks
returns-in-Ok-None-clause-desks g c = all_stay _ _ _

pub returns-in-Err-Bad-clause-desks : goal.returns-in-Err-Bad-clause-desks
returns-in-Err-Bad-clause-desks g c = all_stay _ _ _

pub returns-in-Err-Memory-clause-desks : goal.returns-in-Err-Memory-clause-desks
returns-in-Err-Memory-clause-desks g c = all_stay _ _ _
