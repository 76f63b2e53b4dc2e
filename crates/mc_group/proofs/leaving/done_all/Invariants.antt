use Rattle.std.proofs.Common.{◌≡◌, ◌≤◌, take}
use Rattle.mc_model.specs.Wanted.{without}
use Rattle.mc_queue.specs.Views.{shown, spare}
use Rattle.mc_group.proofs.leaving.done_all.Given as goal

abbrev pub invariant-loop-cid : goal.invariant-loop-cid
invariant-loop-cid l = record {
  queue : shown l.queue ≡ without (shown l.fn.queue) (take l.cid-index l.cids);
  spare : spare l.fn.queue ≤ spare l.queue;
}
