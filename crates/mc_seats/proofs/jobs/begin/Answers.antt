use Rattle.std.proofs.Common.{sym, ◌∙◌}
use Rattle.mc_seats.proofs.BeginFacts.{begins_broke, begins_next, members}
use Rattle.mc_seats.proofs.jobs.begin.Goals as goal

pub returns-in-Ok : goal.returns-in-Ok
returns-in-Ok g c = record {
  begins = λ planted. begins_next (members g.K.Keeper g.K.Counted) planted _ _ _ _ c.begun.ensures c.in-Ok.ensures.call c.in-Ok.ensures.keeps c.in-Ok.ensures.front c.in-Ok.ensures.rest c.in-Ok.ensures.tells c.in-Ok.ensures.first
      c.in-Ok.ensures.digest c.in-Ok.ensures.wants;
}

pub returns-in-Ok-answer : goal.returns-in-Ok-answer
returns-in-Ok-answer g c = record {
  begins = λ planted. begins_broke (members g.K.Keeper g.K.Counted) planted _ _ c.in-Err.error _ (sym c.in-Ok-answer.is ∙ c.answer.ensures) c.in-Err.ensures.call c.in-Err.ensures.keeps c.in-Err.ensures.seen c.in-Err.ensures.front
      c.in-Err.ensures.rest c.in-Err.ensures.tells c.in-Err.ensures.wants;
}

pub returns-in-Err-answer : goal.returns-in-Err-answer
returns-in-Err-answer g c = record {
  begins = λ planted. begins_broke (members g.K.Keeper g.K.Counted) planted _ _ c.in-Err.error _ (sym c.in-Err-answer.is ∙ c.answer.ensures) c.in-Err.ensures.call c.in-Err.ensures.keeps c.in-Err.ensures.seen c.in-Err.ensures.front
      c.in-Err.ensures.rest c.in-Err.ensures.tells c.in-Err.ensures.wants;
}
