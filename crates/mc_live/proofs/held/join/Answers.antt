use Rattle.std.specs.BinaryHeap.{heap_items}
use Rattle.mc_live.proofs.HeldFacts.{both_added, one_heap}
use Rattle.mc_live.proofs.held.join.Goals as goal

pub returns-in-Err-clause-heap : goal.returns-in-Err-clause-heap
returns-in-Err-clause-heap c = one_heap c.args.first

pub returns-clause-ok : goal.returns-clause-ok
returns-clause-ok c =
    both_added c.args.first c.args.row (heap_items c.in-Ok.heap) (heap_items c.push_within.new.heap) (heap_items c.push_within-2.new.heap)
    c.in-Ok.ensures.items c.push_within.ensures.rows c.push_within-2.ensures.rows
