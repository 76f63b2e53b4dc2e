use Rattle.std.proofs.Common.{refl, sym, ap, cond, ◌∙◌, Some, Ok, Err}
use Rattle.std.specs.Prelude.{⊤}
use Rattle.mc_model.specs.Graph.{has}
use Rattle.mc_model.specs.Wanted.{Queue, give_back}
use Rattle.mc_plan.proofs.JobFacts.{begin_call, begin_short, begin_sound, call_sound, next_short_sound, short_wants}
use Rattle.mc_core.proofs.Keeps.{looks_on, still_on}
use Rattle.mc_plan.specs.declared.error.CoreError.TheVariants.{Memory}
use Rattle.mc_plan.specs.Jobs.{NextEvents, NextShort}
use Rattle.mc_plan.specs.Reads.{read_refusal}
use Rattle.mc_plan.specs.Refusals.{Is}
use Rattle.mc_core.specs.Replica.{running_of}
use Rattle.mc_core.proofs.replica.Replica.next_job.Goals as goal

pub returns-then-self-clause-keeps : goal.returns-then-self-clause-keeps
returns-then-self-clause-keeps g c = still_on refl refl refl

pub returns-in_default-clause-keeps : goal.returns-in_default-clause-keeps
returns-in_default-clause-keeps g c = still_on refl refl refl

pub returns-clause-call : goal.returns-clause-call
returns-clause-call g c =
    begin_call c.kept_is_durable.ensures.back _ _ _ _ _ (running_of c.args.self.now) _ _ _ ⊤ c.if-self.false c.in-Ok.ensures.reads.told_same c.in-Ok.ensures.reads.fuse_same (sym (rw c.in-Some.is at c.next.ensures.first)) c.next.ensures.queue c.in-Ok.ensures.own

pub returns-in-Err-Memory-clause-call : goal.returns-in-Err-Memory-clause-call
returns-in-Err-Memory-clause-call g c =
    begin_short _ _ _ _ _ (running_of c.args.self.now) _ c.in-Some.cid ⊤ c.if-self.false c.in-Err-Memory.ensures.reads.told_same c.in-Err-Memory.ensures.reads.fuse_same (sym (rw c.in-Some.is at c.next.ensures.first)) (c.back.ensures.queue ∙ ap (λ (q : Queue). cond (has c.in-Some.cid q.flight) (give_back q c.in-Some.cid) q) c.next.ensures.queue)

pub returns-in-Err-Memory-clause-wants : goal.returns-in-Err-Memory-clause-wants
returns-in-Err-Memory-clause-wants g c = short_wants _ _ c.in-Some.cid (sym (rw c.in-Some.is at c.next.ensures.first)) (c.back.ensures.queue ∙ ap (λ (q : Queue). cond (has c.in-Some.cid q.flight) (give_back q c.in-Some.cid) q) c.next.ensures.queue)

pub invariant_of-self-in-Ok-1 : goal.invariant_of-self-in-Ok-1
invariant_of-self-in-Ok-1 g c = record {
  counted = search (c.own_bytes.ensures.reads.told_same);
  sound = begin_sound _ _ (g.K.Keeper.fuse c.args.self.now.keeper) _ (running_of c.args.self.now) _ c.in-Some.cid c.if-self.false c.own_bytes.ensures.reads.told_same (sym (rw c.in-Some.is at c.next.ensures.first)) c.next.ensures.queue c.args.self.now.sound;
  laid = c.own_bytes.ensures.reads.layout_same ∙ c.args.self.now.laid;
}

pub invariant_of-self-in-Err-Memory-clause-sound : goal.invariant_of-self-in-Err-Memory-clause-sound
invariant_of-self-in-Err-Memory-clause-sound g c =
    call_sound (λ s. Is (read_refusal s)) NextEvents NextShort ⊤ (Err Memory) next_short_sound _ _ (g.K.Keeper.fuse c.args.self.now.keeper) _ _ _ (running_of c.args.self.now) _
    (λ none. c.in-Err-Memory.ensures.reads.told_same ∙ none)
    (begin_short _ _ (g.K.Keeper.fuse c.args.self.now.keeper) _ _ (running_of c.args.self.now) _ c.in-Some.cid ⊤ c.if-self.false c.in-Err-Memory.ensures.reads.told_same c.in-Err-Memory.ensures.reads.fuse_same
    (sym (rw c.in-Some.is at c.next.ensures.first)) (c.back.ensures.queue ∙ ap (λ (q : Queue). cond (has c.in-Some.cid q.flight) (give_back q c.in-Some.cid) q) c.next.ensures.queue))
    c.args.self.now.sound

pub returns-clause-keeps : goal.returns-clause-keeps
returns-clause-keeps g c = looks_on c.in-Ok.ensures.reads refl

pub returns-in-Err-Failed-clause-keeps : goal.returns-in-Err-Failed-clause-keeps
returns-in-Err-Failed-clause-keeps g c = looks_on (rw c.in-Err-Failed.field-0-is at c.in-Err-Failed.ensures.reads) refl

pub returns-in-Err-Memory-clause-keeps : goal.returns-in-Err-Memory-clause-keeps
returns-in-Err-Memory-clause-keeps g c = looks_on (rw c.in-Err-Memory.field-0-is at c.in-Err-Memory.ensures.reads) refl
