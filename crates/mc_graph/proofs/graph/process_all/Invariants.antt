use Rattle.std.proofs.Common.{◌≡◌, ◌≤◌, ◌+◌, take}
use Rattle.std.specs.Prelude.{fold, vec_len, vec_capacity}
use Rattle.indexmap.specs.IndexMap.{spare}
use Rattle.indexmap.specs.IndexSet.{insert_key}
use Rattle.mc_model.specs.Front.{same_cid}
use Rattle.mc_graph.specs.Graph.{graph_of, order_of}
use Rattle.mc_graph.proofs.graph.process_all.Given as goal

abbrev pub invariant-loop-cid : goal.invariant-loop-cid
invariant-loop-cid l = record {
  graph : graph_of l.graph.blocks ≡ graph_of l.fn.graph.blocks;
  order : order_of l.graph.blocks l.graph.order.items ≡ fold (insert_key same_cid) (order_of l.fn.graph.blocks l.fn.graph.order.items) (take l.cid-index l.cids);
  blocks_spare : spare l.fn.graph.blocks ≤ spare l.graph.blocks;
  order_len : vec_len l.graph.order ≤ vec_len l.fn.graph.order + l.cid-index;
  order_capacity : vec_capacity l.fn.graph.order ≤ vec_capacity l.graph.order;
}
