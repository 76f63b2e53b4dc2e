use Rattle.std.proofs.Common.{heap_items}
use Rattle.mc_live.proofs.Tops.{no_first, some_first}
use Rattle.mc_live.proofs.live.top_of.Goals as goal

pub returns-in-Some : goal.returns-in-Some
returns-in-Some c = some_first (heap_items c.args.heap.now) c.in-Some.row.now c.as_slice.result.now c.in-Some.ensures.item.3.0 c.in-Some.ensures.lookup c.as_slice.ensures c.in-Some.ensures.greatest

pub returns-in-None : goal.returns-in-None
returns-in-None c = no_first (heap_items c.args.heap.now) c.in-None.ensures.item.3
