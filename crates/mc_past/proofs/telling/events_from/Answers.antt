use Rattle.mc_past.proofs.LookFacts.{looks_more}
use Rattle.mc_past.proofs.telling.events_from.Goals as goal

pub returns-in-Ok-true-clause-looks : goal.returns-in-Ok-true-clause-looks
returns-in-Ok-true-clause-looks g c = looks_more c.in-Ok-true.ensures.looks c.tell_next.ensures.looks
