use Rattle.std.proofs.Common.{◌≡◌, ◌≤◌, ◌+◌, take}
use Rattle.std.specs.Prelude.{fold}
use Rattle.indexmap.specs.IndexMap.{spare, get}
use Rattle.mc_base.specs.declared.cid.Cid.{Cid}
use Rattle.mc_model.specs.Front.{same_cid}
use Rattle.mc_keep.specs.Changes.{head_with}
use Rattle.mc_graph.proofs.heads.put_heads.Given as goal

abbrev pub invariant-loop-row : goal.invariant-loop-row
invariant-loop-row l = record {
  heads : (cid : Cid) → get same_cid l.heads cid ≡ fold (head_with cid) (get same_cid l.fn.heads cid) (take l.row-index l.rows);
  spare : spare l.fn.heads ≤ spare l.heads + l.row-index;
}
