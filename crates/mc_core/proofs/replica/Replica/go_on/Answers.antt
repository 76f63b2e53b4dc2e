use Rattle.std.specs.Prelude.{⊤}
use Rattle.std.proofs.Common.{[], ◌∷◌, ◌∙◌, Option, Some, true, refl, sym, subst}
use Rattle.mc_model.specs.Events.{WalkVisit}
use Rattle.mc_plan.specs.declared.walks.WalkStep.TheVariants.{Visited}
use Rattle.mc_model.specs.State.{Walk}
use Rattle.mc_model.specs.Wanted.{Queue}
use Rattle.mc_queue.specs.Views.{shown}
use Rattle.mc_plan.specs.Counted.{AreSound}
use Rattle.mc_core.specs.Replica.{running_of}
use Rattle.mc_core.proofs.Keeps.{looks_on}
use Rattle.mc_plan.proofs.SoundFacts.{goes_told, looks_down}
use Rattle.mc_plan.proofs.WalkFacts.{next_due, same_silent, step_done, step_goes, told_visits}
use Rattle.mc_core.proofs.replica.Replica.go_on.Goals as goal

pub returns-in-Ok-clause-call : goal.returns-in-Ok-clause-call
returns-in-Ok-clause-call g c =
    step_done _ _ _ (running_of c.args.self.now) _ ⊤ (Visited c.in-Some-position.position) c.requires.up (next_due _ _ _ (Some c.in-Some-position.position) c.requires.whole c.in-Some.is (sym c.position.ensures.next ∙ c.in-Some-position.is))
    (step_goes (WalkVisit ∷ []) _ _ _ _ _ _ _ c.requires.up c.in-Ok.ensures.reads.told_same c.in-Ok.ensures.reads.fuse_same
    (told_visits _ _ (running_of c.args.self.now) _ _ c.in-Some-position.position _ c.in-Some.is (sym c.position.ensures.next ∙ c.in-Some-position.is) c.visit.ensures c.in-Ok.ensures.wants))

pub invariant_of-self-in-Ok-clause-sound : goal.invariant_of-self-in-Ok-clause-sound
invariant_of-self-in-Ok-clause-sound g c =
    goes_told (WalkVisit ∷ []) _ _ (g.K.Keeper.fuse c.args.self.now.keeper) _ _ _ (running_of c.args.self.now) _ (same_silent c.in-Ok.ensures.reads.told_same)
    (step_goes (WalkVisit ∷ []) _ _ _ _ _ _ _ c.requires.up c.in-Ok.ensures.reads.told_same c.in-Ok.ensures.reads.fuse_same
    (told_visits _ _ (running_of c.args.self.now) _ _ c.in-Some-position.position _ c.in-Some.is (sym c.position.ensures.next ∙ c.in-Some-position.is) c.visit.ensures c.in-Ok.ensures.wants)) c.args.self.now.sound

pub returns-in-Ok-clause-keeps : goal.returns-in-Ok-clause-keeps
returns-in-Ok-clause-keeps g c = looks_on c.in-Ok.ensures.reads refl

pub returns-in-Err-Failed-clause-keeps : goal.returns-in-Err-Failed-clause-keeps
returns-in-Err-Failed-clause-keeps g c = looks_on (rw c.in-Err-Failed.field-0-is at c.in-Err-Failed.ensures.reads) refl

pub returns-in-Err-Memory-clause-keeps : goal.returns-in-Err-Memory-clause-keeps
returns-in-Err-Memory-clause-keeps g c = looks_on (rw c.in-Err-Memory.field-0-is at c.in-Err-Memory.ensures.reads) refl

pub invariant_of-self-in-Err-Failed-clause-sound : goal.invariant_of-self-in-Err-Failed-clause-sound
invariant_of-self-in-Err-Failed-clause-sound g c =
    subst (λ (w : Option Walk). AreSound true (g.K.Keeper.told c.want_links_at.new.keeper) (record (running_of c.args.self.now) { queue = shown c.want_links_at.new.queue; walk = w })) c.in-Some.is
    (subst (λ (q : Queue). AreSound true (g.K.Keeper.told c.want_links_at.new.keeper) (record (running_of c.args.self.now) { queue = q })) (sym c.in-Err-Failed.ensures.same)
    (looks_down _ _ _ _ (running_of c.args.self.now) c.requires.up c.in-Err-Failed.ensures.reads.told_same c.args.self.now.sound))

pub invariant_of-self-in-Err-Memory-clause-sound : goal.invariant_of-self-in-Err-Memory-clause-sound
invariant_of-self-in-Err-Memory-clause-sound g c =
    subst (λ (w : Option Walk). AreSound c.args.self.now.stopped (g.K.Keeper.told c.want_links_at.new.keeper) (record (running_of c.args.self.now) { queue = shown c.want_links_at.new.queue; walk = w })) c.in-Some.is
    (subst (λ (q : Queue). AreSound c.args.self.now.stopped (g.K.Keeper.told c.want_links_at.new.keeper) (record (running_of c.args.self.now) { queue = q })) (sym c.in-Err-Memory.ensures.same)
    (looks_down _ _ _ _ (running_of c.args.self.now) c.requires.up c.in-Err-Memory.ensures.reads.told_same c.args.self.now.sound))
