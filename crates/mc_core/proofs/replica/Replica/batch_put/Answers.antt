use Rattle.mc_plan.specs.Batches.{batch_put_refusal, BatchPutEvents}
use Rattle.mc_plan.specs.Refusals.{Is}
use Rattle.std.proofs.Common.{refl, Some}
use Rattle.std.specs.Prelude.{⊤}
use Rattle.mc_plan.proofs.BatchFacts.{batch_call, put_into}
use Rattle.std.proofs.lemmas.Result.{err_from_is_err_and}
use Rattle.mc_core.proofs.Keeps.{still_on}
use Rattle.mc_core.specs.Replica.{running_of}
use Rattle.mc_core.proofs.AloneFacts.{key_alone, value_alone}
use Rattle.mc_core.proofs.replica.Replica.batch_put.Goals as goal

pub returns-in-Ok-clause-call : goal.returns-in-Ok-clause-call
returns-in-Ok-clause-call g c =
    batch_call {T = ⊤} (λ s. Is (batch_put_refusal s c.args.key.now c.args.value.now)) (λ s. BatchPutEvents s c.args.key.now c.args.value.now) _ _ _ _ _ _ (Some c.put.new.self) ⊤ tt c.if-self.false refl refl
    (put_into _ (g.K.Keeper.fuse c.args.self.now.keeper) (running_of c.args.self.now) c.in-Some.batch c.put.new.self _ _ (tt {0}) c.in-Some.is c.in_ok-name.ensures.ok c.in_ok-check_value.ensures.ok
    (rw (c.in_ok-name.ensures.key) at c.in-Ok.ensures.ok))

pub returns-then-self-clause-keeps : goal.returns-then-self-clause-keeps
returns-then-self-clause-keeps g c = still_on refl refl refl

pub returns-in_default-clause-keeps : goal.returns-in_default-clause-keeps
returns-in_default-clause-keeps g c = still_on refl refl refl

pub returns-in_err-name-clause-keeps : goal.returns-in_err-name-clause-keeps
returns-in_err-name-clause-keeps g c =
    let p = err_from_is_err_and c.from_residual.result c.from_residual.ensures.1 in
    rw (p.1, p.2) (still_on refl refl c.in_err-name.ensures.no_fault)

pub returns-in_err-check_value-clause-keeps : goal.returns-in_err-check_value-clause-keeps
returns-in_err-check_value-clause-keeps g c =
    let p = err_from_is_err_and c.from_residual-in_err-check_value.result c.from_residual-in_err-check_value.ensures.1 in
    rw (p.1, p.2) (still_on refl refl c.in_err-check_value.ensures.no_fault)

pub returns-in-Ok-clause-keeps : goal.returns-in-Ok-clause-keeps
returns-in-Ok-clause-keeps g c = still_on refl refl refl

pub returns-in-Err-clause-keeps : goal.returns-in-Err-clause-keeps
returns-in-Err-clause-keeps g c = still_on refl refl refl

pub returns-in_err-name-clause-seen : goal.returns-in_err-name-clause-seen
returns-in_err-name-clause-seen g c =
    let p = err_from_is_err_and c.from_residual.result c.from_residual.ensures.1 in
    rw (p.1, p.2) (key_alone c.args.key.now _ c.in_err-name.ensures.refused)

pub returns-in_err-check_value-clause-seen : goal.returns-in_err-check_value-clause-seen
returns-in_err-check_value-clause-seen g c =
    let p = err_from_is_err_and c.from_residual-in_err-check_value.result c.from_residual-in_err-check_value.ensures.1 in
    rw (p.1, p.2) (value_alone c.args.value.now _ c.in_err-check_value.ensures.refused)
