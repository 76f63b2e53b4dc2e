use Rattle.std.proofs.Common.{sym, ◌∙◌}
use Rattle.std.specs.BinaryHeap.{heap_items}
use Rattle.mc_tombs.specs.Tombs.{has_tomb_in}
use Rattle.mc_live.proofs.PruneFacts.{pruning_pops}
use Rattle.mc_live.proofs.prune.prune_heap.Goals as goal

pub loop-row-preserved : goal.loop-row-preserved
loop-row-preserved c =
    pruning_pops (has_tomb_in c.args.tombs.now.keys.keys c.args.tombs.now.ids.keys c.args.tombs.now.pairs.keys c.args.key.now) c.args.calls.now (heap_items c.args.heap.now) (heap_items c.loop-row.heap) (heap_items c.pop.new.self)
    c.in-Some.row.now c.in-Some-pop._gone c.loop-row.invariant c.in-Some.ensures.lookup c.in-Some-pop.ensures.top (sym c.counts.ensures ∙ c.if-counts.false) c.in-Some-pop.ensures.permutation (λ h. (c.in-Some-pop.ensures.heap_order h).0)
