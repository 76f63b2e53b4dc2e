use Rattle.mc_runs.proofs.PromiseFacts.{equal_answers, equal_below}
use Rattle.mc_runs.proofs.laws.equal_blocks_answer_equally.Goals as goal

pub returns-clause-found : goal.returns-clause-found
returns-clause-found c = equal_answers c.same_blocks_same_answers.ensures.answers c.same_blocks_same_answers.ensures.heads

pub returns-clause-below : goal.returns-clause-below
returns-clause-below c = equal_below c.founds_are_one.ensures
