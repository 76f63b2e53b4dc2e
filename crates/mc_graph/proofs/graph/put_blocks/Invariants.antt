use Rattle.std.proofs.Common.{◌≡◌, ◌≤◌, ◌+◌, ◌++◌, true, false, length}
use Rattle.std.specs.List.{list_any}
use Rattle.indexmap.specs.IndexMap.{spare}
use Rattle.mc_model.specs.declared.block.Stored.{Stored}
use Rattle.mc_model.specs.Ascending.{is_once}
use Rattle.mc_model.specs.Front.{same_cid}
use Rattle.mc_model.specs.Kept.{is_stored, cids_of}
use Rattle.mc_graph.specs.Graph.{graph_of, order_of}
use Rattle.mc_graph.proofs.graph.put_blocks.Given as goal

abbrev pub invariant-loop-stored : goal.invariant-loop-stored
invariant-loop-stored l = record {
  graph : graph_of l.graph.blocks ≡ graph_of l.initial.graph.blocks ++ l.yielded;
  new : list_any (λ (stored : Stored). is_stored (graph_of l.graph.blocks) stored.cid) l.stored-iterator.rest.items ≡ false;
  once : is_once same_cid (cids_of l.stored-iterator.rest.items) ≡ true;
  order : order_of l.graph.blocks l.graph.order.items ≡ order_of l.initial.graph.blocks l.initial.graph.order.items;
  places : l.graph.order ≡ l.initial.graph.order;
  spare : spare l.initial.graph.blocks ≤ spare l.graph.blocks + length l.yielded;
}
