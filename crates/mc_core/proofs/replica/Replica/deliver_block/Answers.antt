use Rattle.std.proofs.Common.{refl, Some, Err, ◌∙◌}
use Rattle.std.specs.Prelude.{⊤}
use Rattle.mc_plan.proofs.DeliverFacts.{arrival_call, deliver_failed, deliver_short, deliver_short_sound, not_processed}
use Rattle.mc_plan.proofs.JobFacts.{call_sound}
use Rattle.mc_core.proofs.Keeps.{continues_more, looks_on}
use Rattle.mc_plan.specs.declared.error.CoreError.TheVariants.{Memory}
use Rattle.mc_plan.specs.Jobs.{DeliverEvents, DeliverShort}
use Rattle.mc_plan.specs.Reads.{read_refusal}
use Rattle.mc_plan.specs.Refusals.{Is}
use Rattle.mc_core.specs.Replica.{running_of}
use Rattle.mc_core.proofs.AnswerFacts.{good_answers}
use Rattle.mc_core.proofs.replica.Replica.deliver_block.Goals as goal

pub plan_arrival-requires-clause-new : goal.plan_arrival-requires-clause-new
plan_arrival-requires-clause-new g c = not_processed _ _ (running_of c.args.self.now) c.args.cid c.args.self.now.sound c.requires.up c.requires.flight

pub returns-in-Ok-clause-call : goal.returns-in-Ok-clause-call
returns-in-Ok-clause-call g c =
    arrival_call c.kept_is_durable.ensures.stored _ _ _ _ _ (running_of c.args.self.now) _ c.args.cid c.args.bytes c.args.block c.in-Ok.arrival _ _ _ _ c.requires.up c.in-Ok.ensures.reads.told_same c.in-Ok.ensures.reads.fuse_same
    c.in-Ok.ensures.reads.own_goes.later c.requires.flight c.requires.good.0 c.in-Ok.ensures.same c.in-Ok.ensures.events c.in-Ok.ensures.position c.take_up_arrival.ensures.answer c.take_up_arrival.ensures.takes

pub returns-in-Ok-clause-keeps : goal.returns-in-Ok-clause-keeps
returns-in-Ok-clause-keeps g c = continues_more (looks_on c.in-Ok.ensures.reads refl) c.take_up_arrival.ensures.keeps

pub returns-in-Ok-clause-wants : goal.returns-in-Ok-clause-wants
returns-in-Ok-clause-wants g c = rw c.in-Ok.ensures.same at c.take_up_arrival.ensures.wants

pub invariant_of-self-in-Err-Memory-clause-sound : goal.invariant_of-self-in-Err-Memory-clause-sound
invariant_of-self-in-Err-Memory-clause-sound g c =
    call_sound (λ s. Is (read_refusal s)) (λ s. DeliverEvents s c.args.cid (Some c.args.bytes)) (λ s. DeliverShort s c.args.cid) ⊤ (Err Memory) (deliver_short_sound c.args.cid) _ _ (g.K.Keeper.fuse c.args.self.now.keeper) _ _ _ (running_of c.args.self.now) _
    (λ none. c.in-Err-Memory.ensures.reads.told_same ∙ none)
    (deliver_short _ _ (g.K.Keeper.fuse c.args.self.now.keeper) _ _ (running_of c.args.self.now) c.args.cid ⊤ c.requires.up c.in-Err-Memory.ensures.reads.told_same c.in-Err-Memory.ensures.reads.fuse_same c.requires.flight (Some c.args.bytes) _ c.back.ensures.queue)
    c.args.self.now.sound

pub returns-in-Ok-clause-answers : goal.returns-in-Ok-clause-answers
returns-in-Ok-clause-answers g c = good_answers c.args.cid c.args.bytes c.args.block _ _ c.requires.good.0 c.take_up_arrival.ensures.answer
