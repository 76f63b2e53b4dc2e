use Rattle.std.proofs.Common.{◌≡◌, length}
use Rattle.mc_queue.specs.Views.{shown}
use Rattle.mc_group.specs.Inboxes.{given_back_queue}
use Rattle.mc_group.proofs.giving.give_back_all.Given as goal

abbrev pub invariant-loop-item : goal.invariant-loop-item
invariant-loop-item l = record {
  room : l.inbox.room ≡ l.fn.inbox.room;
  queue : given_back_queue (shown l.queue) l.inbox.items ≡ given_back_queue (shown l.fn.queue) l.fn.inbox.items;
}

abbrev pub decreases-loop-item : goal.decreases-loop-item
decreases-loop-item l = length l.inbox.items
