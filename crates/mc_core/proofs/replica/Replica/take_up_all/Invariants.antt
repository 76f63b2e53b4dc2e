use Rattle.std.proofs.Common.{◌≡◌, false}
use Rattle.mc_base.specs.Told.{Told}
use Rattle.mc_core.specs.Replica.{replica_state}
use Rattle.mc_core.specs.Words.{HasCommitted}
use Rattle.mc_plan.proofs.TakenFacts.{Taken}
use Rattle.mc_core.proofs.replica.Replica.take_up_all.Given as goal

abbrev pub invariant-loop-made : goal.invariant-loop-made
invariant-loop-made g l = record {
  taken : Told (replica_state g.K.Keeper.told g.K.Keeper.fuse l.fn.self) (replica_state g.K.Keeper.told g.K.Keeper.fuse l.self) (Taken l.yielded);
  up : l.self.stopped ≡ false;
  keeps : HasCommitted g.K.Keeper g.K.Counted l.fn.self l.self;
}
