use Rattle.std.proofs.Common.{◌-◌, length}
use Rattle.mc_dagpb.proofs.LinkFacts.{IsReading}
use Rattle.mc_dagpb.proofs.link.read_link.Given as goal

abbrev pub invariant-loop-field : goal.invariant-loop-field
invariant-loop-field l = IsReading l.bytes l.from l.at l.before l.hash

abbrev pub decreases-loop-field : goal.decreases-loop-field
decreases-loop-field l = length l.bytes - l.at
