use Rattle.std.proofs.Common.{◌≡◌, ◌≤◌, take}
use Rattle.std.specs.Prelude.{fold}
use Rattle.indexmap.specs.IndexSet.{spare}
use Rattle.mc_base.specs.declared.cid.Cid.{Cid}
use Rattle.mc_model.specs.Front.{is_among}
use Rattle.mc_graph.specs.Front.{closed_by}
use Rattle.mc_graph.proofs.front.drop_cids.Given as goal

abbrev pub invariant-loop-cid : goal.invariant-loop-cid
invariant-loop-cid l = record {
  gaps : (cid : Cid) → is_among l.gaps.keys cid ≡ fold (closed_by cid) (is_among l.fn.gaps.keys cid) (take l.cid-index l.cids);
  spare : spare l.fn.gaps ≤ spare l.gaps;
}
