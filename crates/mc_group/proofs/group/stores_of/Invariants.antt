use Rattle.std.proofs.Common.{◌≡◌, ◌≤◌, ◌+◌, ◌++◌, length, vec_capacity}
use Rattle.mc_group.specs.Gathering.{stores_in}
use Rattle.mc_group.proofs.group.stores_of.Given as goal

abbrev pub invariant-loop-slot : goal.invariant-loop-slot
invariant-loop-slot l = record {
  items : l.stores.items ++ stores_in l.rest.rest.items ≡ stores_in l.fn.slots.items;
  room : length l.stores.items + length l.rest.rest.items ≤ vec_capacity l.stores;
}

abbrev pub decreases-loop-slot : goal.decreases-loop-slot
decreases-loop-slot l = length l.rest.rest.items
