use Rattle.mc_keep.proofs.Frames.{read_itself}
use Rattle.mc_group.proofs.planning.plan_group.Goals as goal

pub returns-in_default-clause-reads : goal.returns-in_default-clause-reads
returns-in_default-clause-reads g c = read_itself c.args.keeper.now
