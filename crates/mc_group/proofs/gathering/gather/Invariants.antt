use Rattle.std.proofs.Common.{◌≡◌, ◌≤◌, ◌++◌, length, vec_capacity}
use Rattle.std.specs.Prelude.{IfSome}
use Rattle.mc_keep.specs.Calls.{HasRead}
use Rattle.mc_queue.specs.Views.{shown}
use Rattle.mc_group.specs.Gathering.{IsGroup, IsGroupOver, items_of}
use Rattle.mc_group.proofs.gathering.gather.Given as goal

abbrev pub invariant-loop : goal.invariant-loop
invariant-loop g l = record {
  group : IsGroup (shown l.queue).flight l.group.slots.items l.group.blocks.items l.group.cids.items;
  over : IfSome (g.K.Keeper.told l.fn.keeper) (λ kept. IsGroupOver kept l.group.slots.items l.group.blocks.items);
  items : l.fn.inbox.items ≡ items_of l.group.slots.items ++ l.inbox.items;
  count : length l.group.slots.items ≡ l.counter;
  slots : l.limit ≤ vec_capacity l.group.slots;
  blocks : l.limit ≤ vec_capacity l.group.blocks;
  cids : l.limit ≤ vec_capacity l.group.cids;
  room : l.inbox.room ≡ l.fn.inbox.room;
  reads : HasRead g.K.Keeper g.K.Counted l.fn.keeper l.keeper;
}
