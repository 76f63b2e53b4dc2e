use Rattle.mc_model.proofs.Goes.{next_goes}
use Rattle.mc_model.proofs.Recall.{recall_goes}
use Rattle.mc_model.proofs.events.queue_moves_are_events.Goals as goal

pub returns-clause-start : goal.returns-clause-start
returns-clause-start c = next_goes

pub returns-clause-recall : goal.returns-clause-recall
returns-clause-recall c = recall_goes
