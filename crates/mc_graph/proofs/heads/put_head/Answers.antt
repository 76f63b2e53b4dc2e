use Rattle.std.proofs.Common.{◌∙◌, ap, cond}
use Rattle.std.specs.Prelude.{Some}
use Rattle.indexmap.specs.IndexMap.{get}
use Rattle.mc_model.specs.Front.{same_cid}
use Rattle.mc_model.proofs.Counts.{same_cid-symm}
use Rattle.mc_graph.proofs.OnOk.{on_ok}
use Rattle.mc_graph.proofs.heads.put_head.Goals as goal

pub returns-clause-heads : goal.returns-clause-heads
returns-clause-heads c = λ cid.
    let updates = on_ok _ c.insert-height.result (c.insert-height.ensures.succeeds c.requires.room) c.insert-height.ensures.updates in
    updates.0 cid ∙ ap (λ t. cond t (Some c.args.row.height) (get same_cid c.args.heads.now cid)) (same_cid-symm c.args.row.cid cid)
