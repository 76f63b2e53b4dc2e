use Rattle.std.proofs.Common.{◌≡◌, ◌≤◌, take}
use Rattle.std.specs.Prelude.{fold}
use Rattle.indexmap.specs.IndexMap.{spare, get}
use Rattle.mc_base.specs.declared.cid.Cid.{Cid}
use Rattle.mc_model.specs.Front.{same_cid}
use Rattle.mc_keep.specs.Changes.{head_without}
use Rattle.mc_graph.proofs.heads.drop_heads.Given as goal

abbrev pub invariant-loop-cid : goal.invariant-loop-cid
invariant-loop-cid l = record {
  heads : (cid : Cid) → get same_cid l.heads cid ≡ fold (head_without cid) (get same_cid l.fn.heads cid) (take l.cid-index l.out);
  spare : spare l.fn.heads ≤ spare l.heads;
}
