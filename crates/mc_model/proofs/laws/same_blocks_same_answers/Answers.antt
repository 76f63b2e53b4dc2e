use Rattle.mc_model.proofs.SameAnswers.{same_answers, same_groups}
use Rattle.mc_model.proofs.Same.{same_value, same_hidden, same_processed, same_linked, same_gap, same_gaps, same_gap_count, same_heads, same_head}
use Rattle.mc_model.proofs.WhoFacts.{same_who}
use Rattle.mc_model.proofs.laws.same_blocks_same_answers.Goals as goal

pub returns-clause-value : goal.returns-clause-value
returns-clause-value c = same_value

pub returns-clause-hidden : goal.returns-clause-hidden
returns-clause-hidden c = same_hidden

pub returns-clause-processed : goal.returns-clause-processed
returns-clause-processed c = same_processed

pub returns-clause-linked : goal.returns-clause-linked
returns-clause-linked c = same_linked

pub returns-clause-gap : goal.returns-clause-gap
returns-clause-gap c = same_gap

pub returns-clause-gaps : goal.returns-clause-gaps
returns-clause-gaps c = same_gaps

pub returns-clause-heads : goal.returns-clause-heads
returns-clause-heads c = same_heads

pub returns-clause-head : goal.returns-clause-head
returns-clause-head c = same_head

pub returns-clause-gap_count : goal.returns-clause-gap_count
returns-clause-gap_count c = same_gap_count

pub returns-clause-answers : goal.returns-clause-answers
returns-clause-answers c = same_answers

pub returns-clause-groups : goal.returns-clause-groups
returns-clause-groups c = same_groups

pub returns-clause-who : goal.returns-clause-who
returns-clause-who c = same_who
