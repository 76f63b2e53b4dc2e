use Rattle.std.specs.Prelude.{⊤}
use Rattle.std.proofs.Common.{[], ◌∷◌, refl, sym}
use Rattle.mc_model.specs.Events.{WalkEnd}
use Rattle.mc_plan.specs.declared.walks.WalkStep.TheVariants.{Ended}
use Rattle.mc_core.specs.Replica.{running_of}
use Rattle.mc_core.proofs.Keeps.{still_on}
use Rattle.mc_plan.proofs.SoundFacts.{goes_told}
use Rattle.mc_plan.proofs.WalkFacts.{same_silent, step_done, step_goes, told_end}
use Rattle.mc_core.proofs.replica.Replica.end_walk.Goals as goal

pub returns-clause-call : goal.returns-clause-call
returns-clause-call g c =
    step_done _ _ _ (running_of c.args.self.now) _ ⊤ Ended c.requires.up (sym c.requires.due)
    (step_goes (WalkEnd ∷ []) _ _ _ _ _ _ _ c.requires.up refl refl
    (told_end c.kept_is_durable.ensures.no_gaps _ _ _ (running_of c.args.self.now) _ c.requires.up c.args.self.now.counted c.is_sound.ensures c.requires.visited (rw c.clears.ensures at c.if-clears.false)))

pub returns-clause-keeps : goal.returns-clause-keeps
returns-clause-keeps g c = still_on refl refl refl

pub invariant_of-self-clause-sound : goal.invariant_of-self-clause-sound
invariant_of-self-clause-sound g c =
    goes_told (WalkEnd ∷ []) _ _ (g.K.Keeper.fuse c.args.self.now.keeper) _ _ _ (running_of c.args.self.now) _ (same_silent refl)
    (step_goes (WalkEnd ∷ []) _ _ _ _ _ _ _ c.requires.up refl refl
    (told_end c.kept_is_durable.ensures.no_gaps _ _ _ (running_of c.args.self.now) _ c.requires.up c.args.self.now.counted c.is_sound.ensures c.requires.visited (rw c.clears.ensures at c.if-clears.false))) c.args.self.now.sound
