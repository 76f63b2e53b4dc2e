use Rattle.std.proofs.Common.{refl}
use Rattle.std.proofs.lemmas.Result.{err_from_is_err_and}
use Rattle.mc_plan.proofs.FaultFacts.{reads_nothing}
use Rattle.mc_plan.proofs.made.plan_made.Goals as goal

pub returns-in_err-made-clause-reads : goal.returns-in_err-made-clause-reads
returns-in_err-made-clause-reads g c =
    let p = err_from_is_err_and c.from_residual.result c.from_residual.ensures.1 in
    rw (p.1, p.2) (reads_nothing c.args.keeper.now refl)
