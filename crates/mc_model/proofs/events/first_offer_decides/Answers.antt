use Rattle.std.proofs.Common.{ap}
use Rattle.mc_model.specs.Found.{found_as}
use Rattle.mc_model.proofs.Found.{first_good, found_good, found_block}
use Rattle.mc_model.proofs.events.first_offer_decides.Goals as goal

pub returns-clause-first : goal.returns-clause-first
returns-clause-first c = first_good

pub returns-clause-found : goal.returns-clause-found
returns-clause-found c = found_good

pub returns-clause-links : goal.returns-clause-links
returns-clause-links c = found_block

pub returns-clause-none : goal.returns-clause-none
returns-clause-none c cid offers e = ap (found_as cid) e
