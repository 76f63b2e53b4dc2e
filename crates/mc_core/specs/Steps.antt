-- What a step of the repair walk leaves of a replica.
use Rattle.std.specs.Prelude.{◌≡◌, false, Option}
use Rattle.mc_base.specs.declared.counted.Counted as counted
use Rattle.mc_keep.specs.declared.fuse.Fuse.{Fuse}
use Rattle.mc_keep.specs.declared.keeper.Keeper as keeper
use Rattle.mc_model.specs.Kept.{Kept}
use Rattle.mc_plan.specs.Walks.{StepWants, WalkGoes, commits_at, is_whole_after, step_due}
use Rattle.mc_plan.specs.declared.walks.WalkStep.{WalkStep}
use Rattle.mc_queue.specs.Views.{shown}
use Rattle.mc_core.specs.declared.replica.Replica.{Replica}

-- what a step leaves besides what is durable, over every keeper: it is the one that is due, and only an end that clears
-- the mark changes what the keeper tells
pub record StepsAt {K D : Type 0} {g : keeper.Ghosts K D} {h : counted.Ghosts K} {i : counted.Ghosts D}
    (told : K → Option Kept) (fuse : K → Option Fuse) (step : WalkStep) (old new : Replica K D g h i) : Type 0 where
  pub due : step ≡ step_due old.whole old.walk
  pub walk_goes : WalkGoes step old.walk new.walk
  pub whole_then : new.whole ≡ is_whole_after step
  pub batch_same : new.batch ≡ old.batch
  pub inbox_same : new.inbox ≡ old.inbox
  pub wants_more : StepWants step (shown old.queue) (shown new.queue)
  pub told_same : commits_at step old.numbers ≡ false → told new.keeper ≡ told old.keeper
  pub fuse_same : commits_at step old.numbers ≡ false → fuse new.keeper ≡ fuse old.keeper
