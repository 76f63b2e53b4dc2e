use Rattle.std.proofs.Common.{◌≡◌, ◌≤◌, ◌+◌, take, length}
use Rattle.mc_queue.specs.Views.{shown, spare}
use Rattle.mc_plan.specs.Uptakes.{wants}
use Rattle.mc_plan.proofs.wanting.want_links.Given as goal

abbrev pub invariant-loop-link : goal.invariant-loop-link
invariant-loop-link l = record {
  queue : shown l.queue ≡ wants (shown l.fn.queue) (take l.link-index l.links);
  room : length l.links ≤ spare l.queue + l.link-index;
}
