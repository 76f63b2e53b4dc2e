use Rattle.std.proofs.Common.{◌-◌, length}
use Rattle.mc_files.proofs.BlockFacts.{AreTaken}
use Rattle.mc_files.proofs.reading.verify_all.Given as goal

abbrev pub invariant-loop-at : goal.invariant-loop-at
invariant-loop-at l = AreTaken l.bytes l.from l.at l.blocks

abbrev pub decreases-loop-at : goal.decreases-loop-at
decreases-loop-at l = length l.bytes - l.at
