use Rattle.mc_plan.specs.Batches.{batch_delete_refusal, BatchDeleteEvents}
use Rattle.mc_plan.specs.Refusals.{Is}
use Rattle.std.proofs.Common.{Some, refl, sym, ap, ◌∙◌}
use Rattle.std.specs.Prelude.{⊤, is_some}
use Rattle.mc_keep.proofs.Frames.{read_well}
use Rattle.mc_plan.proofs.BatchFacts.{batch_call, early_batch, delete_into, delete_due, keeper_rose}
use Rattle.std.proofs.lemmas.Result.{err_from_is_err_and}
use Rattle.mc_core.proofs.Keeps.{looks_on, still_on, stops_once}
use Rattle.mc_plan.proofs.FaultFacts.{same_fault}
use Rattle.mc_core.specs.Replica.{running_of}
use Rattle.mc_core.proofs.AloneFacts.{key_alone}
use Rattle.mc_core.proofs.replica.Replica.batch_delete.Goals as goal

pub returns-in-Ok-clause-call : goal.returns-in-Ok-clause-call
returns-in-Ok-clause-call g c =
    batch_call {T = ⊤} (λ s. Is (batch_delete_refusal s c.args.key.now)) (λ s. BatchDeleteEvents s c.args.key.now) _ _ _ _ _ _ (Some c.delete.new.self) ⊤ tt c.if-self.false c.in-Ok.ensures.reads.told_same c.in-Ok.ensures.reads.fuse_same
    (delete_into c.kept_is_durable.ensures.back _ (g.K.Keeper.fuse c.args.self.now.keeper) (running_of c.args.self.now) c.in-Some.batch c.delete.new.self c.args.key.now (tt {0}) c.in-Some.is c.in_ok-key.ensures.ok
    (rw (c.in_ok-key.ensures.key) at c.in-Ok.ensures.ok))

pub returns-in-Err-clause-call : goal.returns-in-Err-clause-call
returns-in-Err-clause-call g c =
    early_batch (λ s. Is (batch_delete_refusal s c.args.key.now)) (λ s. BatchDeleteEvents s c.args.key.now) _ _ _ _ _ _ (running_of c.args.self.now) (Some c.delete.new.self) _ _ (ap Some c.in-Err.ensures.err ∙ sym c.in-Some.is) c.if-self.false c.in-Err.ensures.reads.told_same c.in-Err.ensures.reads.fuse_same c.stops-self.ensures
    (keeper_rose _ _ _ c.from-error.ensures c.in-Err.ensures.reads.own_goes.rose) (delete_due _ (g.K.Keeper.fuse c.args.self.now.keeper) (running_of c.args.self.now) c.args.key.now _ _ c.from-error.ensures)

pub returns-then-self-clause-keeps : goal.returns-then-self-clause-keeps
returns-then-self-clause-keeps g c = still_on refl refl refl

pub returns-in_default-clause-keeps : goal.returns-in_default-clause-keeps
returns-in_default-clause-keeps g c = still_on refl refl refl

pub returns-in_err-key-clause-keeps : goal.returns-in_err-key-clause-keeps
returns-in_err-key-clause-keeps g c =
    let p = err_from_is_err_and c.from_residual.result c.from_residual.ensures.1 in
    rw (p.1, p.2) (still_on refl refl c.in_err-key.ensures.no_fault)

pub returns-in-Ok-clause-keeps : goal.returns-in-Ok-clause-keeps
returns-in-Ok-clause-keeps g c = looks_on c.in-Ok.ensures.reads refl

pub returns-in-Ok-clause-still_open : goal.returns-in-Ok-clause-still_open
returns-in-Ok-clause-still_open g c = sym (ap is_some c.in-Some.is)

pub returns-in-Err-clause-keeps : goal.returns-in-Err-clause-keeps
returns-in-Err-clause-keeps g c =
    looks_on (read_well c.in-Err.ensures.reads (same_fault _ _ c.from-error.ensures)) (stops_once _ _ _ c.if-self.false c.stops-self.ensures)

pub returns-in-Err-clause-still_open : goal.returns-in-Err-clause-still_open
returns-in-Err-clause-still_open g c = sym (ap is_some c.in-Some.is)

pub returns-in_err-key-clause-seen : goal.returns-in_err-key-clause-seen
returns-in_err-key-clause-seen g c =
    let p = err_from_is_err_and c.from_residual.result c.from_residual.ensures.1 in
    rw (p.1, p.2) (key_alone c.args.key.now _ c.in_err-key.ensures.refused)
