use Rattle.mc_keep.proofs.Frames.{read_itself}
use Rattle.mc_query.proofs.ReadFacts.{reads_none}
use Rattle.mc_query.proofs.ahead.next_row.Goals as goal

pub returns-in-Some-clause-reads : goal.returns-in-Some-clause-reads
returns-in-Some-clause-reads g c = read_itself _

pub returns-in-Some-clause-planned : goal.returns-in-Some-clause-planned
returns-in-Some-clause-planned g c = reads_none 1 (g.K.Keeper.schedule c.args.keeper.now)
