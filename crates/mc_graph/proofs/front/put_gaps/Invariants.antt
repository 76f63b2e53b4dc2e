use Rattle.std.proofs.Common.{◌≡◌, ◌≤◌, ◌+◌, take}
use Rattle.std.specs.Prelude.{fold}
use Rattle.indexmap.specs.IndexSet.{spare}
use Rattle.mc_base.specs.declared.cid.Cid.{Cid}
use Rattle.mc_model.specs.Front.{is_among}
use Rattle.mc_graph.specs.Graph.{order_of}
use Rattle.mc_graph.specs.Front.{opened_by}
use Rattle.mc_graph.proofs.front.put_gaps.Given as goal

abbrev pub invariant-loop-link : goal.invariant-loop-link
invariant-loop-link l = record {
  gaps : (cid : Cid) → is_among l.gaps.keys cid ≡ fold (opened_by (order_of l.graph.blocks l.graph.order.items) cid) (is_among l.fn.gaps.keys cid) (take l.link-index l.links);
  spare : spare l.fn.gaps ≤ spare l.gaps + l.link-index;
}
