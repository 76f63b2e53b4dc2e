use Rattle.mc_core.specs.Batches.{batch_delete_refusal, BatchDeleteEvents, commit_refusal, CommitEvents}
use Rattle.mc_core.specs.Calls.{Stays}
use Rattle.mc_core.specs.Deletes.{DeleteRefusal, DeleteEvents, DeleteShort}
use Rattle.mc_core.specs.Puts.{put_refusal, PutEvents}
use Rattle.mc_core.specs.Refusals.{Is}
use Rattle.std.proofs.Common.{refl}
use Rattle.mc_script.specs.declared.command.Command.TheVariants.{Put, Del, BatchDel, Commit}
use Rattle.mc_script.specs.declared.reply.Reply.TheVariants.{Deleted, Done, Priority}
use Rattle.mc_seats.specs.Effects.{EventsOf, batch_priority}
use Rattle.mc_seats.proofs.CallFacts.{err_call}
use Rattle.mc_seats.proofs.replies.call.Goals as goal

pub returns-in_err-put-in-Put-clause-call : goal.returns-in_err-put-in-Put-clause-call
returns-in_err-put-in-Put-clause-call g c = λ w. rw c.in-Put.is (err_call (λ s. Is (put_refusal s c.in-Put.key c.in-Put.bytes)) (λ s. PutEvents s c.in-Put.key c.in-Put.bytes) (λ s. EventsOf w s (Put c.in-Put.r c.in-Put.key c.in-Put.bytes)) Stays (λ s events said plan. (Priority said.priority, (said, plan, refl))) _ _ _ _ _ c.from_residual.ensures.1 (rw (c.as_str.ensures, c.as_slice.ensures) at c.in_err-put-in-Put.ensures.call))

pub returns-in_err-delete-in-Del-clause-call : goal.returns-in_err-delete-in-Del-clause-call
returns-in_err-delete-in-Del-clause-call g c = λ w. rw c.in-Del.is (err_call (λ s. DeleteRefusal s c.in-Del.key) (λ s. DeleteEvents s c.in-Del.key) (λ s. EventsOf w s (Del c.in-Del.r c.in-Del.key)) (λ s. DeleteShort s c.in-Del.key) (λ s events said plan. (Deleted said.blocks, (said, plan, refl))) _ _ _ _ _ c.from_residual-in_err-delete-in-Del.ensures.1 (rw (c.as_str-in-Del.ensures) at c.in_err-delete-in-Del.ensures.call))

pub returns-in_err-batch_delete-in-BatchDel-clause-call : goal.returns-in_err-batch_delete-in-BatchDel-clause-call
returns-in_err-batch_delete-in-BatchDel-clause-call g c = λ w. rw c.in-BatchDel.is (err_call (λ s. Is (batch_delete_refusal s c.in-BatchDel.key)) (λ s. BatchDeleteEvents s c.in-BatchDel.key) (λ s. EventsOf w s (BatchDel c.in-BatchDel.r c.in-BatchDel.key)) Stays (λ s events said plan. (Done, (said, plan, refl))) _ _ _ _ _ c.from_residual-in_err-batch_delete-in-BatchDel.ensures.1 (rw (c.as_str-in-BatchDel.ensures) at c.in_err-batch_delete-in-BatchDel.ensures.call))

pub returns-in_err-batch_commit-in-Commit-clause-call : goal.returns-in_err-batch_commit-in-Commit-clause-call
returns-in_err-batch_commit-in-Commit-clause-call g c = λ w. rw c.in-Commit.is (err_call (λ s. Is (commit_refusal s)) (λ s. CommitEvents s) (λ s. EventsOf w s (Commit c.in-Commit.r)) Stays (λ s events said plan. (Priority (batch_priority said), (said, plan, refl))) _ _ _ _ _ c.from_residual-in_err-batch_commit-in-Commit.ensures.1 c.in_err-batch_commit-in-Commit.ensures.call)
