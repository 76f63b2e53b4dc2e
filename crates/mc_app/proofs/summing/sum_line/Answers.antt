use Rattle.std.proofs.Common.{inl}
use Rattle.mc_app.proofs.SummingFacts.{part_answered}
use Rattle.mc_app.proofs.summing.sum_line.Goals as goal

pub returns-in-Err-clause-failed : goal.returns-in-Err-clause-failed
returns-in-Err-clause-failed g c = λ failed. part_answered (c.in-Err.ensures.failed failed)

pub returns-in-Err-clause-short : goal.returns-in-Err-clause-short
returns-in-Err-clause-short g c = λ short. inl (c.in-Err.ensures.short short)
