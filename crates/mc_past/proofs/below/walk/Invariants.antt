use Rattle.std.proofs.Common.{◌≡◌, false}
use Rattle.mc_past.specs.Looks.{HasLooked}
use Rattle.mc_past.proofs.WalkFacts.{HasKept}
use Rattle.mc_past.proofs.below.walk.Given as goal

abbrev pub invariant-loop-left : goal.invariant-loop-left
invariant-loop-left g l = record {
  runs : l.replica.stopped ≡ false;
  looks : HasLooked g.K.Keeper g.K.Counted l.fn.replica l.replica;
  walking : HasKept (g.K.Keeper.told l.fn.replica.keeper) l.fn.cid l.view;
}

abbrev pub decreases-loop-left : goal.decreases-loop-left
decreases-loop-left g l = l.left
