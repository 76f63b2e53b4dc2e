use Rattle.mc_keep.proofs.Frames.{read_itself}
use Rattle.mc_plan.proofs.deliveries.block_to_process.Goals as goal

pub returns-then-not-known-clause-reads : goal.returns-then-not-known-clause-reads
returns-then-not-known-clause-reads g c = read_itself c.args.keeper.now
