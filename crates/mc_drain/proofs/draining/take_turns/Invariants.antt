use Rattle.std.proofs.Common.{◌≡◌, false, []}
use Rattle.mc_base.specs.Told.{Told}
use Rattle.mc_fetch.specs.Calls.{HasAsked}
use Rattle.mc_fetch.specs.Offers.{found_by, surely_by}
use Rattle.mc_queue.specs.Views.{shown}
use Rattle.mc_core.specs.Exact.{RestSame}
use Rattle.mc_core.specs.Replica.{replica_state}
use Rattle.mc_core.specs.Words.{ContinuesAt}
use Rattle.mc_drain.specs.Leads.{Leads, up_to}
use Rattle.mc_drain.specs.Words.{Fetched}
use Rattle.mc_drain.specs.Lost.{IsLost, Sticks}
use Rattle.std.specs.Prelude.{IfSome}
use Rattle.mc_drain.proofs.draining.take_turns.Given as goal

abbrev pub invariant-loop : goal.invariant-loop
invariant-loop g l = record {
  runs : l.replica.stopped ≡ false;
  none : (shown l.replica.queue).flight ≡ [];
  keeps : ContinuesAt g.K.Keeper.told g.K.Keeper.fuse g.K.Keeper.own g.K.Counted.faults g.K.Keeper.quiet g.K.Keeper.schedule false l.fn.replica l.replica;
  rest : RestSame l.fn.replica l.replica;
  asked : HasAsked g.F.Fetch g.F.Counted l.fn.fetch l.fetch;
  leads : Told (replica_state g.K.Keeper.told g.K.Keeper.fuse l.fn.replica) (replica_state g.K.Keeper.told g.K.Keeper.fuse l.replica) (λ s now. Leads false (up_to l.limit s) (Fetched (found_by (g.F.Fetch.offers l.fn.fetch))) s now);
  sticks : IfSome (replica_state g.K.Keeper.told g.K.Keeper.fuse l.fn.replica) (λ s. Sticks (IsLost (surely_by (g.F.Fetch.leading l.fn.fetch)) s.state.durable.graph) (shown l.fn.replica.queue) (shown l.replica.queue));
}
