use Rattle.mc_front.proofs.Places.{found_told}
use Rattle.mc_group.proofs.planning.is_processed.Goals as goal

pub returns-clause-found : goal.returns-clause-found
returns-clause-found g c = found_told _ _ _ _ c.is_some.ensures c.in_ok-position.ensures.row
