-- Calls of a replica one after another: what they leave alone.
use Rattle.std.proofs.Common.{◌∙◌, ℕ, Bool, Option}
use Rattle.mc_base.specs.Causes.{Rose}
use Rattle.mc_base.specs.declared.counted.Counted as counted
use Rattle.mc_keep.specs.Plan.{Schedule}
use Rattle.mc_keep.specs.declared.fuse.Fuse.{Fuse}
use Rattle.mc_keep.specs.declared.keeper.Keeper as keeper
use Rattle.mc_keep.proofs.Frames.{rose_before}
use Rattle.mc_model.specs.Kept.{Kept}
use Rattle.mc_core.specs.Exact.{TellsSameAt}
use Rattle.mc_core.specs.Words.{ContinuesAt}
use Rattle.mc_core.specs.declared.replica.Replica.{Replica}

-- what the keeper tells and what is wanted stay over two calls
pub same_more : {K D : Type 0} {g : keeper.Ghosts K D} {h : counted.Ghosts K} {i : counted.Ghosts D} {told : K → Option Kept} {fuse : K → Option Fuse} {old mid new : Replica K D g h i}
    → TellsSameAt told fuse old mid → TellsSameAt told fuse mid new → TellsSameAt told fuse old new
same_more before next = record { told_same = next.told_same ∙ before.told_same; fuse_same = next.fuse_same ∙ before.fuse_same; queue_same = next.queue_same ∙ before.queue_same }

-- what rose in the second call
pub rose_since : {K D : Type 0} {g : keeper.Ghosts K D} {h : counted.Ghosts K} {i : counted.Ghosts D} {told : K → Option Kept} {fuse : K → Option Fuse} {own faults : K → ℕ} {quiet : K → Bool} {schedule : K → Option Schedule} {failed : Bool} {old mid : Replica K D g h i}
    → ContinuesAt told fuse own faults quiet schedule failed old mid → (now : ℕ) → Rose (own mid.keeper) now → Rose (own old.keeper) now
rose_since before now rose = rose_before before.keeper_goes.own_later rose
