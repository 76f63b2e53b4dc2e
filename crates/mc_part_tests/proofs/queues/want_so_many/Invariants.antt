use Rattle.std.proofs.Common.{◌≤◌, ◌+◌}
use Rattle.mc_queue.specs.Views.{spare}
use Rattle.mc_part_tests.proofs.queues.want_so_many.Given as goal

abbrev pub invariant-loop-number : goal.invariant-loop-number
invariant-loop-number l = l.count ≤ spare l.queue + l.number
