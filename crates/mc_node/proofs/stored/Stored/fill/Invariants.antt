use Rattle.std.proofs.Common.{◌≡◌, ◌≤◌, [], length}
use Rattle.std.specs.Prelude.{is_some}
use Rattle.mc_node.specs.Entries.{shown_at}
use Rattle.mc_node.specs.Fillings.{Moves}
use Rattle.mc_node.proofs.stored.Stored.fill.Given as goal

abbrev pub invariant-loop-moved : goal.invariant-loop-moved
invariant-loop-moved g l = record {
  log : l.self.log ≡ l.fn.self.log;
  shows : shown_at g.K.Keeper.told g.K.Keeper.fuse g.K.Keeper.own g.K.Counted.faults g.K.Keeper.quiet g.K.Keeper.schedule l.self.replica.value
      ≡ shown_at g.K.Keeper.told g.K.Keeper.fuse g.K.Keeper.own g.K.Counted.faults g.K.Keeper.quiet g.K.Keeper.schedule l.fn.self.replica.value;
  keeper : l.self.replica.value.keeper ≡ l.fn.self.replica.value.keeper;
  room : 64 ≤ l.self.replica.value.inbox.room;
  relay : is_some l.self.taker ≡ is_some l.fn.self.taker;
  moves : Moves l.fn.self.taker l.self.taker l.fn.self.replica.value.inbox.items [] l.self.replica.value.inbox.items;
  many : l.moved ≤ length l.self.replica.value.inbox.items;
}
