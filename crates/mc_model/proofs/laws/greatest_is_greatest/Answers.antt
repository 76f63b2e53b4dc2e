use Rattle.mc_model.proofs.Greatest.{greatest_is_greatest, greatest_same}
use Rattle.mc_model.proofs.laws.greatest_is_greatest.Goals as goal

pub returns-clause-greatest : goal.returns-clause-greatest
returns-clause-greatest c = greatest_is_greatest

pub returns-clause-same : goal.returns-clause-same
returns-clause-same c = greatest_same
