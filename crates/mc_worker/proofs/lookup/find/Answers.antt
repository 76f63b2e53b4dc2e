use Rattle.mc_worker.proofs.lookup.find.Goals as goal

pub returns-in-Ok-None-clause-asks : goal.returns-in-Ok-None-clause-asks
returns-in-Ok-None-clause-asks g c = c.in-Ok-None.ensures.asks
