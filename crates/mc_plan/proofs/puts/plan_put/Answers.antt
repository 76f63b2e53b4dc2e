use Rattle.mc_plan.specs.Refusals.{key_refusal, value_refusal}
use Rattle.mc_plan.specs.Puts.{put_made_refusal}
use Rattle.std.specs.Option.{option_or}
use Rattle.mc_plan.proofs.RefusalFacts.{result_second, told_always}
use Rattle.std.proofs.lemmas.Result.{err_from_is_err_and}
use Rattle.mc_plan.proofs.FaultFacts.{reads_nothing}
use Rattle.mc_plan.proofs.puts.plan_put.Goals as goal

pub returns-clause-refused : goal.returns-clause-refused
returns-clause-refused g c =
    result_second _ (λ kept. key_refusal c.args.key.now) (λ kept. option_or (value_refusal c.args.value.now) (put_made_refusal kept c.args.key.now c.args.value.now)) _
    (told_always _ _ (λ kept. c.in_ok-key.ensures.ok))
    (result_second _ (λ kept. value_refusal c.args.value.now) (λ kept. put_made_refusal kept c.args.key.now c.args.value.now) _ (told_always _ _ (λ kept. c.in_ok-check_value.ensures.ok))
    (rw (c.in_ok-key.ensures.key) at c.plan_made_put.ensures.refused))

pub returns-in_err-key-clause-reads : goal.returns-in_err-key-clause-reads
returns-in_err-key-clause-reads g c =
    let p = err_from_is_err_and c.from_residual.result c.from_residual.ensures.1 in
    rw (p.1, p.2) (reads_nothing c.args.keeper.now c.in_err-key.ensures.no_fault)

pub returns-in_err-check_value-clause-reads : goal.returns-in_err-check_value-clause-reads
returns-in_err-check_value-clause-reads g c =
    let p = err_from_is_err_and c.from_residual-in_err-check_value.result c.from_residual-in_err-check_value.ensures.1 in
    rw (p.1, p.2) (reads_nothing c.args.keeper.now c.in_err-check_value.ensures.no_fault)
