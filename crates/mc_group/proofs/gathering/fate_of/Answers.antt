use Rattle.mc_keep.proofs.Frames.{read_itself}
use Rattle.mc_group.proofs.gathering.fate_of.Goals as goal

pub returns-then-not-is_due-clause-reads : goal.returns-then-not-is_due-clause-reads
returns-then-not-is_due-clause-reads g c = read_itself c.args.keeper.now
