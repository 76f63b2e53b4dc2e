use Rattle.std.proofs.Common.{◌≡◌, ◌-◌, ◌≤◌, length}
use Rattle.mc_car.specs.CarRead.{sections_at}
use Rattle.mc_files.specs.Steps.{number_of}
use Rattle.mc_files.proofs.reading.number_from.Given as goal

abbrev pub invariant-loop-at : goal.invariant-loop-at
invariant-loop-at l = record {
  inside : l.at ≤ length l.bytes;
  same : number_of (sections_at l.bytes l.from) ≡ number_of (sections_at l.bytes l.at);
}

abbrev pub decreases-loop-at : goal.decreases-loop-at
decreases-loop-at l = length l.bytes - l.at
