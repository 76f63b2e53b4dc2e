use Rattle.std.proofs.Common.{◌≡◌, ◌-◌, ◌≤◌, false}
use Rattle.mc_past.specs.Looks.{HasLooked}
use Rattle.mc_past.proofs.TellingFacts.{HasTold}
use Rattle.mc_past.proofs.telling.tell_next.Given as goal

abbrev pub invariant-loop-number : goal.invariant-loop-number
invariant-loop-number g l = record {
  runs : l.replica.stopped ≡ false;
  looks : HasLooked g.K.Keeper g.K.Counted l.fn.replica l.replica;
  below : l.number ≤ l.fn.count;
  events : HasTold (g.K.Keeper.told l.fn.replica.keeper) l.fn.past.length l.number l.past l.taken.events;
}

abbrev pub decreases-loop-number : goal.decreases-loop-number
decreases-loop-number g l = l.fn.count - l.number
