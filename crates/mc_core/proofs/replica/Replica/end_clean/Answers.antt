use Rattle.std.specs.Prelude.{⊤}
use Rattle.std.proofs.Common.{[], ◌∷◌, Option, Some, false, refl, sym, subst}
use Rattle.std.specs.Prelude.{IfSome}
use Rattle.mc_plan.specs.declared.walks.WalkStep.TheVariants.{Ended}
use Rattle.mc_core.specs.Replica.{running_of}
use Rattle.mc_keep.proofs.Frames.{goes_commit}
use Rattle.mc_model.specs.Events.{WalkEnd}
use Rattle.mc_plan.proofs.SoundFacts.{goes_told}
use Rattle.mc_plan.proofs.WalkFacts.{clear_breaks, clear_goes, cleared_count, step_done, step_failed, told_cleared}
use Rattle.mc_base.specs.Causes.{Rose}
use Rattle.mc_keep.specs.Causes.{fires}
use Rattle.mc_keep.specs.Tables.{ChangesFit, Meets}
use Rattle.mc_keep.specs.declared.changes.Changes.{Changes}
use Rattle.mc_plan.proofs.RefusalFacts.{told_always}
use Rattle.mc_plan.specs.Walks.{clearing}
use Rattle.mc_keep.proofs.LaidTwo.{laid_two, laid_two_or_not}
use Rattle.mc_core.proofs.LaidFacts.{meets}
use Rattle.mc_core.proofs.replica.Replica.end_clean.Goals as goal

pub returns-in-Ok-clause-call : goal.returns-in-Ok-clause-call
returns-in-Ok-clause-call g c =
    step_done _ _ _ (running_of c.args.self.now) _ ⊤ Ended c.requires.up (sym c.requires.due)
    (clear_goes c.commits_are_events.ensures.clear _ _ _ _ _ (running_of c.args.self.now) c.requires.up c.in-Ok.ensures.lasts c.in-Ok.ensures.commits.fuse_burnt c.requires.visited
    (told_cleared c.kept_is_durable.ensures.no_gaps _ _ _ c.requires.up c.args.self.now.counted c.is_sound.ensures c.requires.clears) (rw c.clearing.ensures at c.in-Ok.ensures.done))

pub returns-in-Err-clause-call : goal.returns-in-Err-clause-call
returns-in-Err-clause-call g c =
    step_failed _ _ _ (running_of c.args.self.now) _ _ Ended c.requires.up (sym c.requires.due)
    (clear_breaks c.commits_are_events.ensures.clear _ _ _ _ _ (running_of c.args.self.now) _ c.requires.up c.in-Err.ensures.commits.fuse_burnt c.requires.visited
    (told_cleared c.kept_is_durable.ensures.no_gaps _ _ _ c.requires.up c.args.self.now.counted c.is_sound.ensures c.requires.clears) (rw c.clearing.ensures at c.in-Err.ensures.failed))

pub returns-in-Ok-clause-keeps : goal.returns-in-Ok-clause-keeps
returns-in-Ok-clause-keeps g c = record { keeper_goes = goes_commit _ _ _ c.in-Ok.ensures.commits c.in-Ok.ensures.planned; stops = refl }

pub invariant_of-self-clause-counted : goal.invariant_of-self-clause-counted
invariant_of-self-clause-counted g c =
    cleared_count c.changes_fit.ensures.marked _ _ _ _ c.requires.up c.args.self.now.counted c.in-Ok.ensures.commits.silent (rw c.clearing.ensures at c.in-Ok.ensures.done)

pub invariant_of-self-clause-sound : goal.invariant_of-self-clause-sound
invariant_of-self-clause-sound g c =
    goes_told (WalkEnd ∷ []) _ _ (g.K.Keeper.fuse c.args.self.now.keeper) _ _ _ (running_of c.args.self.now) _ c.in-Ok.ensures.commits.silent
    (clear_goes c.commits_are_events.ensures.clear _ _ (g.K.Keeper.fuse c.args.self.now.keeper) _ _ (running_of c.args.self.now) c.requires.up c.in-Ok.ensures.lasts c.in-Ok.ensures.commits.fuse_burnt c.requires.visited
    (told_cleared c.kept_is_durable.ensures.no_gaps _ _ _ c.requires.up c.args.self.now.counted c.is_sound.ensures c.requires.clears) (rw c.clearing.ensures at c.in-Ok.ensures.done)) c.args.self.now.sound

pub commit-requires-clause-fits : goal.commit-requires-clause-fits
commit-requires-clause-fits g c =
    subst (λ (changes : Changes). IfSome (g.K.Keeper.told c.args.self.now.keeper) (λ kept. Meets (g.K.Keeper.layout c.args.self.now.keeper) kept changes)) (sym c.clearing.ensures)
    (meets (g.K.Keeper.told c.args.self.now.keeper) (g.K.Keeper.layout c.args.self.now.keeper) clearing (told_always (g.K.Keeper.told c.args.self.now.keeper) (λ kept. ChangesFit kept clearing) (λ kept. c.changes_fit.ensures.mark kept (Some false))))

pub invariant_of-self-clause-laid : goal.invariant_of-self-clause-laid
invariant_of-self-clause-laid g c = laid_two (g.K.Keeper.layout c.args.self.now.keeper) (g.K.Keeper.layout c.commit.new.self) c.clearing.result c.args.self.now.laid c.in-Ok.ensures.laid

pub invariant_of-self-in-Err-clause-laid : goal.invariant_of-self-in-Err-clause-laid
invariant_of-self-in-Err-clause-laid g c =
    laid_two_or_not (fires (g.K.Keeper.fuse c.args.self.now.keeper)) (Rose (g.K.Keeper.own c.args.self.now.keeper) (g.K.Keeper.own c.commit.new.self)) (g.K.Keeper.layout c.args.self.now.keeper) (g.K.Keeper.layout c.commit.new.self) c.clearing.result c.args.self.now.laid c.in-Err.ensures.laid_or_not
