-- What a call of a replica answers and leaves over every keeper, also over one that tells nothing.
use Rattle.std.specs.Prelude.{◌≡◌, ℕ, Bool, true, false, Option}
use Rattle.mc_model.specs.Kept.{Kept}
use Rattle.mc_base.specs.declared.counted.Counted as counted
use Rattle.mc_keep.specs.declared.fuse.Fuse.{Fuse}
use Rattle.mc_keep.specs.declared.keeper.Keeper as keeper
use Rattle.mc_plan.specs.declared.error.CoreError.{CoreError}
use Rattle.mc_plan.specs.declared.error.CoreError.TheVariants.{BadKey, ValueTooLong, BlockTooLarge, PriorityFull, Clash}
use Rattle.mc_plan.specs.declared.error.CoreError.TheVariants.{KeeperFault, Stopped, BadCast, NoBatch, BatchOpen}
use Rattle.mc_plan.specs.declared.error.CoreError.TheVariants.{Memory}
use Rattle.mc_core.specs.declared.replica.Replica.{Replica}
pub use Rattle.mc_plan.specs.Exact.{seen_of, front_of, stop_front, put_front, NoMemory, IfRefusedOrShort, IfRefused}

-- whether an error is the refusal of a block that a call would make: no priority is left for it, it is too large, or it
-- clashes
abbrev pub is_block_refusal : CoreError → Bool
is_block_refusal (BlockTooLarge len) = true
is_block_refusal PriorityFull = true
is_block_refusal (Clash cid) = true
is_block_refusal (BadKey fault) = false
is_block_refusal ValueTooLong = false
is_block_refusal KeeperFault = false
is_block_refusal Stopped = false
is_block_refusal (BadCast fault) = false
is_block_refusal NoBatch = false
is_block_refusal BatchOpen = false
is_block_refusal Memory = false

-- the refusals of a call that makes no block are those that the replica decides alone
abbrev pub DecidesAlone : CoreError → Type 0
DecidesAlone error = is_block_refusal error ≡ false

-- the walk, the batch, and whether every gap is wanted are as before
pub record RunSame {K D : Type 0} {g : keeper.Ghosts K D} {h : counted.Ghosts K} {i : counted.Ghosts D}
    (old new : Replica K D g h i) : Type 0 where
  pub walk_same : new.walk ≡ old.walk
  pub batch_same : new.batch ≡ old.batch
  pub whole_same : new.whole ≡ old.whole

-- and so is the inbox
pub record RestSame {K D : Type 0} {g : keeper.Ghosts K D} {h : counted.Ghosts K} {i : counted.Ghosts D}
    (old new : Replica K D g h i) : Type 0 where
  pub walk_same : new.walk ≡ old.walk
  pub batch_same : new.batch ≡ old.batch
  pub whole_same : new.whole ≡ old.whole
  pub inbox_same : new.inbox ≡ old.inbox

-- what the keeper tells and its fuse are as before
pub record StillTellsAt {K D : Type 0} {g : keeper.Ghosts K D} {h : counted.Ghosts K} {i : counted.Ghosts D}
    (told : K → Option Kept) (fuse : K → Option Fuse) (old new : Replica K D g h i) : Type 0 where
  pub told_same : told new.keeper ≡ told old.keeper
  pub fuse_same : fuse new.keeper ≡ fuse old.keeper

-- and so is what is wanted
pub record TellsSameAt {K D : Type 0} {g : keeper.Ghosts K D} {h : counted.Ghosts K} {i : counted.Ghosts D}
    (told : K → Option Kept) (fuse : K → Option Fuse) (old new : Replica K D g h i) : Type 0 where
  pub told_same : told new.keeper ≡ told old.keeper
  pub fuse_same : fuse new.keeper ≡ fuse old.keeper
  pub queue_same : new.queue ≡ old.queue
