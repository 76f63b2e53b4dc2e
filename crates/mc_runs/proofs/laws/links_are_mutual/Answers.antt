use Rattle.mc_runs.proofs.LinkFacts.{linked_back, others_as_before, set_is_up}
use Rattle.mc_runs.proofs.laws.links_are_mutual.Goals as goal

pub returns-clause-mutual : goal.returns-clause-mutual
returns-clause-mutual c = linked_back

pub returns-clause-set : goal.returns-clause-set
returns-clause-set c = set_is_up

pub returns-clause-others : goal.returns-clause-others
returns-clause-others c = others_as_before
