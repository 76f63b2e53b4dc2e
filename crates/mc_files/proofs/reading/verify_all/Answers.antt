use Rattle.std.proofs.Common.{arith}
use Rattle.mc_files.proofs.BlockFacts.{taken_all}
use Rattle.mc_files.proofs.reading.verify_all.Goals as goal

pub returns-clause-taken : goal.returns-clause-taken
returns-clause-taken c = taken_all c.args.bytes.now c.args.from c.loop-at.at c.loop-at.blocks c.loop-at.invariant (omega arith)
