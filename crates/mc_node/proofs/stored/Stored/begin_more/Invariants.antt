use Rattle.std.proofs.Common.{◌≡◌, ◌≤◌, ◌+◌, All, true, vec_capacity, vec_len}
use Rattle.mc_turn.specs.Lists.{Begins}
use Rattle.mc_fetch.specs.Fits.{JobFits}
use Rattle.mc_node.specs.Ahead.{BeginsAll}
use Rattle.mc_node.specs.Entries.{is_sealed_log, items_at, shown_at}
use Rattle.mc_node.proofs.stored.Stored.begin_more.Given as goal

abbrev pub invariant-loop : goal.invariant-loop
invariant-loop g l = record {
  begins : BeginsAll l.fn.limit l.ahead.items (items_at g.K.Keeper.told g.K.Keeper.fuse g.K.Keeper.own g.K.Counted.faults g.K.Keeper.quiet g.K.Keeper.schedule l.fn.self.log.items)
      (shown_at g.K.Keeper.told g.K.Keeper.fuse g.K.Keeper.own g.K.Counted.faults g.K.Keeper.quiet g.K.Keeper.schedule l.fn.self.replica.value)
      (items_at g.K.Keeper.told g.K.Keeper.fuse g.K.Keeper.own g.K.Counted.faults g.K.Keeper.quiet g.K.Keeper.schedule l.self.log.items)
      (shown_at g.K.Keeper.told g.K.Keeper.fuse g.K.Keeper.own g.K.Counted.faults g.K.Keeper.quiet g.K.Keeper.schedule l.self.replica.value);
  extends : Begins l.fn.self.log.items l.self.log.items;
  sealed : is_sealed_log l.self.log.items ≡ true;
  fits : All (JobFits g.J.Naming.found g.J.Naming.kept) l.ahead.items;
  room : vec_len l.ahead + l.count ≤ vec_capacity l.ahead + l.counter;
  few : l.counter ≤ l.count;
}
