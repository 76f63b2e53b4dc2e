use Rattle.std.proofs.Common.{◌∙◌, ap, sym, not, ◌&&◌, List}
use Rattle.mc_base.specs.declared.cid.Cid.{Cid}
use Rattle.mc_model.specs.Front.{same_cid, is_among}
use Rattle.mc_model.proofs.Counts.{same_cid-symm}
use Rattle.mc_graph.proofs.CidFacts.{cond_and, not_and_none, nothing_in}
use Rattle.mc_graph.proofs.cids.drop_cid.Goals as goal

pub returns-clause-among : goal.returns-clause-among
returns-clause-among c = λ other.
    c.swap_remove-was_there.ensures.updates.0 other ∙ cond_and (same_cid c.args.cid.now other) (is_among c.args.cids.now.keys other) ∙ ap (λ t. not t && is_among c.args.cids.now.keys other) (same_cid-symm c.args.cid.now other)

pub returns-then-is_empty-clause-among : goal.returns-then-is_empty-clause-among
returns-then-is_empty-clause-among c = λ other.
    let none = nothing_in c.args.cids.now.keys (c.is_empty.ensures.0 c.if-is_empty.true) in
    ap (λ (z : List Cid). is_among z other) none ∙ not_and_none (same_cid other c.args.cid.now) ∙ ap (λ (z : List Cid). not (same_cid other c.args.cid.now) && is_among z other) (sym none)
