use Rattle.mc_model.proofs.Recall.{back_says, back_takes, recall_is, recall_may}
use Rattle.mc_model.proofs.draining.recall_gives_back.Goals as goal

pub returns-clause-may : goal.returns-clause-may
returns-clause-may c = recall_may

pub returns-clause-is : goal.returns-clause-is
returns-clause-is c = recall_is

pub returns-clause-takes : goal.returns-clause-takes
returns-clause-takes c = back_takes

pub returns-clause-says : goal.returns-clause-says
returns-clause-says c = back_says
