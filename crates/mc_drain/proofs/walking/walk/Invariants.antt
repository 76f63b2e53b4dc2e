use Rattle.std.proofs.Common.{◌≡◌, false}
use Rattle.mc_base.specs.Told.{Told}
use Rattle.mc_queue.specs.Views.{shown}
use Rattle.mc_core.specs.Replica.{replica_state}
use Rattle.mc_core.specs.Words.{ContinuesAt}
use Rattle.mc_drain.specs.Repairs.{Walks}
use Rattle.mc_drain.proofs.walking.walk.Given as goal

abbrev pub invariant-loop : goal.invariant-loop
invariant-loop g l = record {
  runs : l.replica.stopped ≡ false;
  keeps : ContinuesAt g.K.Keeper.told g.K.Keeper.fuse g.K.Keeper.own g.K.Counted.faults g.K.Keeper.quiet g.K.Keeper.schedule false l.fn.replica l.replica;
  batch : l.replica.batch ≡ l.fn.replica.batch;
  flight : (shown l.replica.queue).flight ≡ (shown l.fn.replica.queue).flight;
  walks : Told (replica_state g.K.Keeper.told g.K.Keeper.fuse l.fn.replica) (replica_state g.K.Keeper.told g.K.Keeper.fuse l.replica) (λ s now. Walks false 0 s now);
}
