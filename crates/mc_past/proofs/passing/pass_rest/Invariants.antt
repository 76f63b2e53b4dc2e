use Rattle.std.proofs.Common.{◌≡◌, ◌-◌, ◌^◌, false}
use Rattle.mc_past.specs.Looks.{HasLooked}
use Rattle.mc_past.proofs.PassingFacts.{HasPassed}
use Rattle.mc_past.proofs.passing.pass_rest.Given as goal

abbrev pub invariant-loop-position : goal.invariant-loop-position
invariant-loop-position g l = record {
  runs : l.replica.stopped ≡ false;
  unspent : l.feed.spent ≡ false;
  looks : HasLooked g.K.Keeper g.K.Counted l.fn.replica l.replica;
  passed : HasPassed g.H.Hook.taken (g.K.Keeper.told l.fn.replica.keeper) l.position l.fn.feed l.feed;
}

abbrev pub decreases-loop-position : goal.decreases-loop-position
decreases-loop-position g l = 2 ^ 64 - l.position
