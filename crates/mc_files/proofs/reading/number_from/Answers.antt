use Rattle.std.proofs.Common.{arith}
use Rattle.mc_files.proofs.BlockFacts.{number_ends}
use Rattle.mc_files.proofs.reading.number_from.Goals as goal

pub returns : goal.returns
returns c = number_ends c.args.bytes.now c.args.from c.loop-at.at c.loop-at.invariant.inside c.loop-at.invariant.same (omega arith)
