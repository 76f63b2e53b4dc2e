use Rattle.std.proofs.Common.{◌-◌, length}
use Rattle.mc_delta.proofs.DeltaFacts.{IsReading}
use Rattle.mc_delta.proofs.read.read_delta.Given as goal

abbrev pub invariant-loop-delta : goal.invariant-loop-delta
invariant-loop-delta l = IsReading l.bytes l.at l.delta

abbrev pub decreases-loop-delta : goal.decreases-loop-delta
decreases-loop-delta l = length l.bytes - l.at
