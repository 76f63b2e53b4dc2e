use Rattle.std.proofs.Common.{◌≡◌, length}
use Rattle.mc_queue.specs.Shown.{cids_of, drained}
use Rattle.mc_queue.specs.Views.{shown}
use Rattle.mc_queue.proofs.queue.Queue.move_all.Given as goal

abbrev pub invariant-loop-from : goal.invariant-loop-from
invariant-loop-from l = record {
  shown : drained l.from (shown l.self) ≡ drained l.from (shown l.fn.self);
  room : l.self.room ≡ l.fn.self.room;
}

abbrev pub decreases-loop-from : goal.decreases-loop-from
decreases-loop-from l = length (cids_of l.from (shown l.self))
