use Rattle.std.proofs.Common.{◌-◌}
use Rattle.mc_base.proofs.VarintFacts.{IsReading}
use Rattle.mc_base.proofs.varint.first_varint.Given as goal

abbrev pub invariant-loop-at : goal.invariant-loop-at
invariant-loop-at l = IsReading l.bytes l.at l.value l.weight

abbrev pub decreases-loop-at : goal.decreases-loop-at
decreases-loop-at l = 9 - l.at
