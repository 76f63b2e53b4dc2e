use Rattle.std.proofs.Common.{◌-◌, length}
use Rattle.mc_delta.proofs.EntryFacts.{IsReading}
use Rattle.mc_delta.proofs.entry.read_entry.Given as goal

abbrev pub invariant-loop-field : goal.invariant-loop-field
invariant-loop-field l = IsReading l.bytes l.from l.at l.entry

abbrev pub decreases-loop-field : goal.decreases-loop-field
decreases-loop-field l = length l.bytes - l.at
