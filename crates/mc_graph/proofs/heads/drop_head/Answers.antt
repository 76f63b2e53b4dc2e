use Rattle.std.proofs.Common.{◌∙◌, ap, cond}
use Rattle.std.specs.Prelude.{None}
use Rattle.indexmap.specs.IndexMap.{get}
use Rattle.mc_model.specs.Front.{same_cid}
use Rattle.mc_model.proofs.Counts.{same_cid-symm}
use Rattle.mc_graph.proofs.heads.drop_head.Goals as goal

pub returns-clause-heads : goal.returns-clause-heads
returns-clause-heads c = λ cid. c.swap_remove-height.ensures.updates.0 cid ∙ ap (λ t. cond t None (get same_cid c.args.heads.now cid)) (same_cid-symm c.args.out.now cid)
