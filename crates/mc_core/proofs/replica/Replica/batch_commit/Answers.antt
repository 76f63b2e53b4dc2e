use Rattle.mc_plan.specs.Batches.{commit_refusal, CommitEvents}
use Rattle.mc_plan.specs.Refusals.{Is}
use Rattle.std.proofs.Common.{refl, sym, None}
use Rattle.std.specs.Prelude.{⊤}
use Rattle.mc_plan.proofs.CallFacts.{early_call, part_call}
use Rattle.mc_plan.proofs.MadeFacts.{commit_made, nothing_made}
use Rattle.mc_plan.proofs.BatchFacts.{batch_call, commit_due, commit_plan, commit_empty}
use Rattle.mc_core.proofs.Keeps.{continues_more, looks_on, still_on}
use Rattle.mc_core.specs.Replica.{running_of}
use Rattle.mc_plan.proofs.PutFacts.{some_plan}
use Rattle.mc_plan.proofs.SoundFacts.{looks_down}
use Rattle.mc_plan.specs.Batches.{delta_of_batch}
use Rattle.mc_plan.specs.Puts.{next_links}
use Rattle.mc_core.proofs.AnswerFacts.{none_made, one_made}
use Rattle.mc_core.proofs.replica.Replica.batch_commit.Goals as goal

pub returns-then-is_empty-clause-call : goal.returns-then-is_empty-clause-call
returns-then-is_empty-clause-call g c =
    batch_call (λ s. Is (commit_refusal s)) CommitEvents _ _ _ _ _ _ None ⊤ None c.if-self.false refl refl
    (commit_empty _ (g.K.Keeper.fuse c.args.self.now.keeper) (running_of c.args.self.now) c.in-Some.batch c.in-Some.is c.if-is_empty.ensures)

pub returns-in-Ok-clause-call : goal.returns-in-Ok-clause-call
returns-in-Ok-clause-call g c =
    part_call (λ s. Is (commit_refusal s)) CommitEvents _ _ _ _ _ _ _ _ _ _ _ _ _ c.if-self.false c.in-Ok.ensures.reads.told_same c.in-Ok.ensures.reads.fuse_same c.in-Ok.ensures.reads.own_goes.later
    (commit_plan c.kept_is_durable.ensures.back _ (g.K.Keeper.fuse c.args.self.now.keeper) (running_of c.args.self.now) c.in-Some.batch c.in-Ok.planned c.in-Some.is c.if-is_empty.ensures c.in-Ok.ensures.allowed c.in-Ok.ensures.planned)
    c.take_up_batch.ensures.answer c.take_up_batch.ensures.only c.take_up_batch.ensures.part

pub returns-in-Err-clause-call : goal.returns-in-Err-clause-call
returns-in-Err-clause-call g c =
    early_call (λ s. Is (commit_refusal s)) CommitEvents _ _ _ _ _ _ (running_of c.args.self.now) _ _ c.if-self.false c.in-Err.ensures.reads.told_same c.in-Err.ensures.reads.fuse_same c.stops-self.ensures c.in-Err.ensures.reads.own_goes.rose
    (commit_due c.kept_is_durable.ensures.back _ (g.K.Keeper.fuse c.args.self.now.keeper) (running_of c.args.self.now) c.in-Some.batch _ c.in-Some.is c.if-is_empty.ensures c.in-Err.ensures.refused)

pub returns-then-is_empty-clause-made : goal.returns-then-is_empty-clause-made
returns-then-is_empty-clause-made g c = nothing_made _ _ _ _

pub returns-in-Ok-clause-made : goal.returns-in-Ok-clause-made
returns-in-Ok-clause-made g c =
    commit_made c.kept_is_durable.ensures.back c.commits_are_events.ensures.sound c.changes_fit.ensures.stored c.changes_fit.ensures.same c.kept_is_durable.ensures.made_links
    _ _ _ _ _ (running_of c.args.self.now) _ c.in-Some.batch _ _ c.in-Ok.planned _ c.if-self.false c.in-Some.is c.in-Ok.ensures.reads.told_same c.in-Ok.ensures.reads.fuse_same c.is_sound.ensures c.in-Ok.ensures.planned c.take_up_batch.ensures.answer
    c.take_up_batch.ensures.part

pub returns-then-self-clause-keeps : goal.returns-then-self-clause-keeps
returns-then-self-clause-keeps g c = still_on refl refl refl

pub returns-in_default-clause-keeps : goal.returns-in_default-clause-keeps
returns-in_default-clause-keeps g c = still_on refl refl refl

pub returns-then-is_empty-clause-keeps : goal.returns-then-is_empty-clause-keeps
returns-then-is_empty-clause-keeps g c = still_on refl refl refl

pub returns-in-Ok-clause-keeps : goal.returns-in-Ok-clause-keeps
returns-in-Ok-clause-keeps g c = continues_more (looks_on c.in-Ok.ensures.reads refl) c.take_up_batch.ensures.keeps

pub take_up_batch-requires-clause-uptake : goal.take_up_batch-requires-clause-uptake
take_up_batch-requires-clause-uptake g c = rw (c.in-Ok.ensures.reads.told_same) (some_plan _ _ next_links (λ kept. delta_of_batch kept c.in-Some.batch) _ c.in-Ok.ensures.planned)

pub invariant_of-self-in-Err-clause-sound : goal.invariant_of-self-in-Err-clause-sound
invariant_of-self-in-Err-clause-sound g c = looks_down _ _ _ _ (running_of c.args.self.now) c.if-self.false c.in-Err.ensures.reads.told_same c.args.self.now.sound

pub returns-then-is_empty-clause-empty : goal.returns-then-is_empty-clause-empty
returns-then-is_empty-clause-empty g c = none_made _ c.in-Some.batch c.in-Some.is (sym c.if-is_empty.ensures)

pub returns-in-Ok-clause-empty : goal.returns-in-Ok-clause-empty
returns-in-Ok-clause-empty g c = one_made _ c.in-Some.batch _ _ c.in-Some.is (sym c.if-is_empty.ensures) c.take_up_batch.ensures.answer
