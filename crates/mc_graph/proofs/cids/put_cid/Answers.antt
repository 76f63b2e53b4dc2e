use Rattle.std.proofs.Common.{◌∙◌, ap, ◌||◌}
use Rattle.mc_base.proofs.Booleans.{cond_or}
use Rattle.mc_model.specs.Front.{same_cid, is_among}
use Rattle.mc_model.proofs.Counts.{same_cid-symm}
use Rattle.mc_graph.proofs.OnOk.{on_ok}
use Rattle.mc_graph.proofs.cids.put_cid.Goals as goal

pub returns-clause-among : goal.returns-clause-among
returns-clause-among c = λ other.
    let updates = on_ok _ c.insert-added.result (c.insert-added.ensures.succeeds c.requires.room) c.insert-added.ensures.updates in
    updates.0 other ∙ cond_or (same_cid c.args.cid other) (is_among c.args.cids.now.keys other) ∙ ap (λ t. t || is_among c.args.cids.now.keys other) (same_cid-symm c.args.cid other)
