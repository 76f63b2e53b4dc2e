use Rattle.std.specs.BinaryHeap.{heap_items, heap_len}
use Rattle.mc_tombs.specs.Tombs.{has_tomb_in}
use Rattle.mc_live.proofs.PruneFacts.{IsPruning}
use Rattle.mc_live.proofs.prune.prune_heap.Given as goal

abbrev pub invariant-loop-row : goal.invariant-loop-row
invariant-loop-row l = IsPruning (has_tomb_in l.tombs.keys.keys l.tombs.ids.keys l.tombs.pairs.keys l.key) l.calls (heap_items l.initial.heap) (heap_items l.heap)

abbrev pub decreases-loop-row : goal.decreases-loop-row
decreases-loop-row l = heap_len l.heap
