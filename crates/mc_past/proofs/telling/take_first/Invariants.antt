use Rattle.std.proofs.Common.{◌≡◌, ◌-◌, ◌≤◌, false}
use Rattle.mc_past.specs.Looks.{HasLooked}
use Rattle.mc_past.proofs.TellingFacts.{HasTaken}
use Rattle.mc_past.proofs.telling.take_first.Given as goal

abbrev pub invariant-loop-position : goal.invariant-loop-position
invariant-loop-position g l = record {
  runs : l.replica.stopped ≡ false;
  looks : HasLooked g.K.Keeper g.K.Counted l.fn.replica l.replica;
  below : l.position ≤ l.fn.from;
  taken : HasTaken (g.K.Keeper.told l.fn.replica.keeper) l.position l.past;
}

abbrev pub decreases-loop-position : goal.decreases-loop-position
decreases-loop-position g l = l.fn.from - l.position
