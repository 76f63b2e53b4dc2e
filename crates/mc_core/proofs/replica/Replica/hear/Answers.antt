use Rattle.std.proofs.Common.{refl}
use Rattle.std.specs.Prelude.{⊤}
use Rattle.mc_queue.specs.Views.{shown}
use Rattle.mc_core.specs.Replica.{running_of}
use Rattle.mc_plan.proofs.HearFacts.{hear_call, hear_sound}
use Rattle.mc_core.proofs.Keeps.{looks_on, still_on}
use Rattle.mc_core.proofs.replica.Replica.hear.Goals as goal

pub returns-then-self-clause-keeps : goal.returns-then-self-clause-keeps
returns-then-self-clause-keeps g c = still_on refl refl refl

pub invariant_of-self-clause-sound : goal.invariant_of-self-clause-sound
invariant_of-self-clause-sound g c =
    hear_sound c.hear_new.result _ _ _ (running_of c.args.self.now) (shown c.hear_new.new.queue) c.args.message.now c.in-Ok.new c.in-Ok.ensures.reads.told_same c.args.self.now.sound c.in-Ok.ensures.new (rw c.as_slice.ensures at c.hear_new.ensures.queue) c.hear_new.ensures.short

pub returns-in-Ok-hear_new-clause-call : goal.returns-in-Ok-hear_new-clause-call
returns-in-Ok-hear_new-clause-call g c =
    hear_call _ _ _ _ _ (running_of c.args.self.now) (shown c.hear_new.new.queue) ⊤ c.args.message.now c.in-Ok.new c.in-Ok-hear_new.heard c.if-self.false c.in-Ok.ensures.reads.told_same c.in-Ok.ensures.reads.fuse_same c.args.self.now.sound c.in-Ok.ensures.allowed c.in-Ok.ensures.new
    (rw c.as_slice.ensures at c.in-Ok-hear_new.ensures.queue) c.in-Ok-hear_new.ensures.queued

pub returns-in-Ok-hear_new-clause-keeps : goal.returns-in-Ok-hear_new-clause-keeps
returns-in-Ok-hear_new-clause-keeps g c = looks_on c.in-Ok.ensures.reads refl

pub returns-in-Ok-hear_new-clause-wants : goal.returns-in-Ok-hear_new-clause-wants
returns-in-Ok-hear_new-clause-wants g c = (c.in-Ok.new, c.in-Ok.ensures.some, rw c.as_slice.ensures at c.in-Ok-hear_new.ensures.queue)
