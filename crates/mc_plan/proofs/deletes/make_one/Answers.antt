use Rattle.std.proofs.Common.{sym, ◌∙◌}
use Rattle.mc_plan.proofs.DeleteFacts.{made_clashes, check_fails, made_is}
use Rattle.std.proofs.Common.{refl}
use Rattle.std.proofs.lemmas.Result.{err_from_is_err_and}
use Rattle.mc_plan.proofs.FaultFacts.{reads_nothing}
use Rattle.mc_plan.proofs.deletes.make_one.Goals as goal

pub returns-then-has_made-clause-refused : goal.returns-then-has_made-clause-refused
returns-then-has_made-clause-refused g c =
    made_clashes _ c.args.before.now c.args.links c.args.delta _ (sym c.has_made.ensures ∙ c.if-has_made.true) (rw (c.as_slice.ensures) at c.in_ok-made.ensures.cid)

pub returns-in-Err-clause-refused : goal.returns-in-Err-clause-refused
returns-in-Err-clause-refused g c =
    check_fails _ c.args.before.now c.args.links c.args.delta _ _ _ (sym c.has_made.ensures ∙ c.if-has_made.false) (rw (c.as_slice.ensures) at c.in_ok-made.ensures.cid) (rw (c.as_slice.ensures) at c.in_ok-made.ensures.bytes)
    (rw (c.as_slice-2.ensures) at c.in-Err.ensures.refused)

pub returns-clause-made : goal.returns-clause-made
returns-clause-made g c =
    made_is _ c.args.before.now c.args.links c.args.delta _ _ _ (sym c.has_made.ensures ∙ c.if-has_made.false) (rw (c.as_slice.ensures) at c.in_ok-made.ensures.cid) (rw (c.as_slice.ensures) at c.in_ok-made.ensures.bytes)
    (rw (c.as_slice.ensures) at c.in_ok-made.ensures.good) (rw (c.as_slice-2.ensures) at c.in-Ok.ensures.allowed) c.in-Ok.ensures.known

pub returns-in_err-made-clause-reads : goal.returns-in_err-made-clause-reads
returns-in_err-made-clause-reads g c =
    let p = err_from_is_err_and c.from_residual.result c.from_residual.ensures.1 in
    rw (p.1, p.2) (reads_nothing c.args.keeper.now refl)

pub returns-then-has_made-clause-reads : goal.returns-then-has_made-clause-reads
returns-then-has_made-clause-reads g c = reads_nothing c.args.keeper.now refl
