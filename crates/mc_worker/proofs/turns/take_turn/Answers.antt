use Rattle.mc_worker.proofs.turns.take_turn.Goals as goal

pub returns-in-Ok-None-clause-end : goal.returns-in-Ok-None-clause-end
returns-in-Ok-None-clause-end g c = rw c.in-Ok-None.field-0-is at c.in-Ok-None.ensures.ended
