use Rattle.std.proofs.Common.{◌≡◌, ◌≤◌, ◌+◌, [], take, length}
use Rattle.mc_model.specs.Wanted.{hear_all}
use Rattle.mc_queue.specs.Views.{shown, spare}
use Rattle.mc_plan.proofs.hears.want_again.Given as goal

abbrev pub invariant-loop-cid : goal.invariant-loop-cid
invariant-loop-cid l = record {
  queue : shown l.queue ≡ hear_all [] (shown l.fn.queue) (take l.cid-index l.cids);
  room : length l.cids ≤ spare l.queue + l.cid-index;
}
