use Rattle.mc_writers.proofs.StormCrews.{open_one, written_nothing}
use Rattle.mc_writers.proofs.writing.write_all.Goals as goal

pub returns-in_default-clause-written : goal.returns-in_default-clause-written
returns-in_default-clause-written g c = written_nothing _ _ _ _ (open_one _ c.requires.unsealed) c.requires.unused
