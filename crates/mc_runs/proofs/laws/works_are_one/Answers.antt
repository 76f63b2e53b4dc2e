use Rattle.mc_runs.proofs.OneEnds.{answers_one, repairs_one, works_one}
use Rattle.mc_runs.proofs.laws.works_are_one.Goals as goal

pub returns-clause-works : goal.returns-clause-works
returns-clause-works c = works_one

pub returns-clause-repairs : goal.returns-clause-repairs
returns-clause-repairs c = repairs_one c.same_blocks_same_answers.ensures.gap_count

pub returns-clause-answers : goal.returns-clause-answers
returns-clause-answers c = answers_one
