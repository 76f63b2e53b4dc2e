use Rattle.mc_model.proofs.Valued.{valued_sorted, valued_exact}
use Rattle.mc_model.proofs.answers.valued_keys_are_exact.Goals as goal

pub returns-clause-sorted : goal.returns-clause-sorted
returns-clause-sorted c = valued_sorted

pub returns-clause-exact : goal.returns-clause-exact
returns-clause-exact c = valued_exact
