use Rattle.std.proofs.Common.{refl, Some, Ok, Err}
use Rattle.std.specs.Prelude.{⊤}
use Rattle.mc_plan.proofs.DeliverFacts.{deliver_bad, deliver_short, deliver_short_sound}
use Rattle.mc_plan.proofs.JobFacts.{call_sound}
use Rattle.mc_core.proofs.Keeps.{still_on}
use Rattle.mc_fetch.specs.declared.job.Delivered.TheVariants.{Bad}
use Rattle.mc_plan.specs.declared.error.CoreError.TheVariants.{Memory}
use Rattle.mc_plan.specs.Jobs.{DeliverEvents, DeliverShort}
use Rattle.mc_plan.specs.Reads.{read_refusal}
use Rattle.mc_plan.specs.Refusals.{Is}
use Rattle.mc_core.specs.Replica.{running_of}
use Rattle.mc_core.proofs.AnswerFacts.{bad_answers}
use Rattle.mc_core.proofs.replica.Replica.deliver_bytes.Goals as goal

pub returns-in-Err-Damaged-clause-keeps : goal.returns-in-Err-Damaged-clause-keeps
returns-in-Err-Damaged-clause-keeps g c = still_on refl refl refl

pub returns-in-Err-Damaged-clause-call : goal.returns-in-Err-Damaged-clause-call
returns-in-Err-Damaged-clause-call g c =
    deliver_bad _ _ _ _ _ (running_of c.args.self.now) c.args.cid ⊤ c.requires.up refl refl c.requires.flight _ c.args.bytes _ _ (rw (c.in-Err-Damaged.field-0-is, c.as_slice.ensures) at c.in-Err-Damaged.ensures.damaged) (search (c.in-Err-Damaged.damage-is, c.number-damage.ensures)) c.bad.ensures.queue

pub invariant_of-self-clause-sound : goal.invariant_of-self-clause-sound
invariant_of-self-clause-sound g c =
    call_sound (λ s. Is (read_refusal s)) (λ s. DeliverEvents s c.args.cid (Some c.args.bytes)) (λ s. DeliverShort s c.args.cid) ⊤ (Ok (Bad c.number-damage.result)) (deliver_short_sound c.args.cid) _ _ (g.K.Keeper.fuse c.args.self.now.keeper) _ _ _ (running_of c.args.self.now) _ (λ none. none)
    (deliver_bad _ _ (g.K.Keeper.fuse c.args.self.now.keeper) _ _ (running_of c.args.self.now) c.args.cid ⊤ c.requires.up refl refl c.requires.flight _ c.args.bytes _ _ (rw (c.in-Err-Damaged.field-0-is, c.as_slice.ensures) at c.in-Err-Damaged.ensures.damaged) (search (c.in-Err-Damaged.damage-is, c.number-damage.ensures)) c.bad.ensures.queue)
    c.args.self.now.sound

pub returns-clause-keeps : goal.returns-clause-keeps
returns-clause-keeps g c = still_on refl refl refl

pub returns-clause-call : goal.returns-clause-call
returns-clause-call g c = deliver_short _ _ _ _ _ (running_of c.args.self.now) c.args.cid ⊤ c.requires.up refl refl c.requires.flight (Some c.args.bytes) _ c.back.ensures.queue

pub invariant_of-self-in-Err-Memory-clause-sound : goal.invariant_of-self-in-Err-Memory-clause-sound
invariant_of-self-in-Err-Memory-clause-sound g c =
    call_sound (λ s. Is (read_refusal s)) (λ s. DeliverEvents s c.args.cid (Some c.args.bytes)) (λ s. DeliverShort s c.args.cid) ⊤ (Err Memory) (deliver_short_sound c.args.cid) _ _ (g.K.Keeper.fuse c.args.self.now.keeper) _ _ _ (running_of c.args.self.now) _ (λ none. none)
    (deliver_short _ _ (g.K.Keeper.fuse c.args.self.now.keeper) _ _ (running_of c.args.self.now) c.args.cid ⊤ c.requires.up refl refl c.requires.flight (Some c.args.bytes) _ c.back.ensures.queue) c.args.self.now.sound

pub returns-in-Err-Damaged-clause-answers : goal.returns-in-Err-Damaged-clause-answers
returns-in-Err-Damaged-clause-answers g c =
    bad_answers c.args.cid c.args.bytes _ _ (rw (c.in-Err-Damaged.field-0-is, c.as_slice.ensures) at c.in-Err-Damaged.ensures.damaged) (search (c.in-Err-Damaged.damage-is, c.number-damage.ensures))
