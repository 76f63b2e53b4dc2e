use Rattle.std.proofs.Common.{[], ◌∷◌, refl}
use Rattle.mc_base.specs.Causes.{Rose}
use Rattle.mc_model.specs.Events.{Process}
use Rattle.mc_plan.proofs.CommitFacts.{process_done, process_failed, ready_fits}
use Rattle.mc_plan.proofs.CountFacts.{counted_after, gaps_planned}
use Rattle.mc_core.proofs.Keeps.{commits_on}
use Rattle.mc_plan.proofs.SoundFacts.{breaks_told, goes_told}
use Rattle.mc_core.specs.Replica.{running_of}
use Rattle.mc_keep.proofs.LaidTwo.{laid_two, laid_two_or_not}
use Rattle.mc_core.proofs.LaidFacts.{meets}
use Rattle.mc_keep.specs.Causes.{fires}
use Rattle.mc_core.proofs.replica.Replica.commit_process.Goals as goal

pub returns-in-Ok-clause-part : goal.returns-in-Ok-clause-part
returns-in-Ok-clause-part g c =
    process_done c.commits_are_events.ensures.process _ _ _ _ _ (running_of c.args.self.now) _ _ c.args.after c.requires.up c.in-Ok.ensures.lasts c.in-Ok.ensures.commits.fuse_burnt c.is_sound.ensures c.requires.ready
    c.requires.only.0 c.requires.only.1 (rw (c.as_slice.ensures, c.done.ensures.queue) at c.want_links.ensures.queue) (rw (c.into_changes-process.ensures) at c.in-Ok.ensures.done)

pub returns-clause-part : goal.returns-clause-part
returns-clause-part g c =
    process_failed c.commits_are_events.ensures.process _ _ _ _ _ (running_of c.args.self.now) _ c.args.after _ c.requires.up c.in-Err.ensures.commits.fuse_burnt c.is_sound.ensures c.requires.ready
    c.requires.only.0 c.requires.only.1 (rw (c.into_changes-process.ensures) at c.in-Err.ensures.failed)

pub returns-in-Ok-clause-keeps : goal.returns-in-Ok-clause-keeps
returns-in-Ok-clause-keeps g c = commits_on _ _ _ c.in-Ok.ensures.commits c.in-Ok.ensures.planned refl (record { walk_same = refl; batch_same = refl; whole_same = refl; inbox_same = refl })

pub invariant_of-self-clause-counted : goal.invariant_of-self-clause-counted
invariant_of-self-clause-counted g c =
    counted_after _ _ _ c.args.process _ _ _ c.requires.up c.args.self.now.counted c.in-Ok.ensures.commits.silent (rw (c.into_changes-process.ensures) at c.in-Ok.ensures.done) (rw (c.into_changes-process.ensures) at c.numbers_after-numbers.ensures)
    (gaps_planned _ c.args.process c.args.self.now.numbers _ c.requires.ready (λ kept ready. ready.gaps_left))

pub invariant_of-self-clause-sound : goal.invariant_of-self-clause-sound
invariant_of-self-clause-sound g c =
    goes_told (Process c.args.process.marks ∷ []) _ _ (g.K.Keeper.fuse c.args.self.now.keeper) _ _ _ (running_of c.args.self.now) _ c.in-Ok.ensures.commits.silent
    (process_done c.commits_are_events.ensures.process _ _ (g.K.Keeper.fuse c.args.self.now.keeper) _ _ (running_of c.args.self.now) _ c.args.process c.args.after c.requires.up c.in-Ok.ensures.lasts c.in-Ok.ensures.commits.fuse_burnt c.is_sound.ensures c.requires.ready
    c.requires.only.0 c.requires.only.1 (rw (c.as_slice.ensures, c.done.ensures.queue) at c.want_links.ensures.queue) (rw (c.into_changes-process.ensures) at c.in-Ok.ensures.done)) c.args.self.now.sound

pub invariant_of-self-in-Err-clause-sound : goal.invariant_of-self-in-Err-clause-sound
invariant_of-self-in-Err-clause-sound g c =
    breaks_told (Process c.args.process.marks ∷ []) (Rose (g.K.Keeper.own c.args.self.now.keeper) (g.K.Keeper.own c.commit.new.self)) _ _ (g.K.Keeper.fuse c.args.self.now.keeper) _ _ _ (running_of c.args.self.now) _ c.in-Err.ensures.commits.silent
    (process_failed c.commits_are_events.ensures.process _ _ (g.K.Keeper.fuse c.args.self.now.keeper) _ _ (running_of c.args.self.now) c.args.process c.args.after (Rose (g.K.Keeper.own c.args.self.now.keeper) (g.K.Keeper.own c.commit.new.self)) c.requires.up c.in-Err.ensures.commits.fuse_burnt c.is_sound.ensures c.requires.ready
    c.requires.only.0 c.requires.only.1 (rw (c.into_changes-process.ensures) at c.in-Err.ensures.failed)) c.args.self.now.sound

pub commit-requires-clause-fits : goal.commit-requires-clause-fits
commit-requires-clause-fits g c =
    rw (c.into_changes-process.ensures) (meets (g.K.Keeper.told c.args.self.now.keeper) (g.K.Keeper.layout c.args.self.now.keeper) c.args.process (ready_fits (g.K.Keeper.told c.args.self.now.keeper) c.args.self.now.whole c.args.process c.args.after c.requires.ready))

pub invariant_of-self-clause-laid : goal.invariant_of-self-clause-laid
invariant_of-self-clause-laid g c = laid_two (g.K.Keeper.layout c.args.self.now.keeper) (g.K.Keeper.layout c.commit.new.self) c.args.process c.args.self.now.laid (rw (c.into_changes-process.ensures) at c.in-Ok.ensures.laid)

pub invariant_of-self-in-Err-clause-laid : goal.invariant_of-self-in-Err-clause-laid
invariant_of-self-in-Err-clause-laid g c =
    laid_two_or_not (fires (g.K.Keeper.fuse c.args.self.now.keeper)) (Rose (g.K.Keeper.own c.args.self.now.keeper) (g.K.Keeper.own c.commit.new.self)) (g.K.Keeper.layout c.args.self.now.keeper) (g.K.Keeper.layout c.commit.new.self) c.args.process c.args.self.now.laid (rw (c.into_changes-process.ensures) at c.in-Err.ensures.laid_or_not)
