use Rattle.std.proofs.Common.{◌≡◌, ◌≤◌, ◌+◌, ◌++◌, length}
use Rattle.mc_group.specs.Gathering.{AreHeld, items_of}
use Rattle.mc_group.proofs.group.add_all.Given as goal

abbrev pub invariant-loop-slot : goal.invariant-loop-slot
invariant-loop-slot l = record {
  held : AreHeld l.rest.rest.items l.blocks.rest.items;
  few : length l.rest.rest.items + length l.inbox.items ≤ 64;
  fits : length l.rest.rest.items + length l.inbox.items ≤ l.inbox.room;
  items : l.inbox.items ++ items_of l.rest.rest.items ≡ l.fn.inbox.items ++ items_of l.fn.slots.items;
  room : l.inbox.room ≡ l.fn.inbox.room;
}

abbrev pub decreases-loop-slot : goal.decreases-loop-slot
decreases-loop-slot l = length l.rest.rest.items
