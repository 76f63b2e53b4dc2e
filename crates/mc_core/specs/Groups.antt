-- What becomes of blocks that were taken out of a replica's inbox.
use Rattle.std.specs.Prelude.{◌≡◌, ℕ, List, ◌++◌, drop, Result, Ok, Err, IfOk}
use Rattle.mc_base.specs.declared.counted.Counted as counted
use Rattle.mc_keep.specs.declared.keeper.Keeper as keeper
use Rattle.mc_model.specs.declared.block.Stored.{Stored}
use Rattle.mc_queue.specs.Views.{shown}
use Rattle.mc_plan.specs.declared.error.CoreError.{CoreError}
use Rattle.mc_plan.specs.Refusals.{ByKind, kind_of}
use Rattle.mc_group.specs.declared.grouped.Grouped.{Grouped}
use Rattle.mc_group.specs.Inboxes.{CountsGroup, GroupWants}
use Rattle.mc_core.specs.declared.replica.Replica.{Replica}
use Rattle.mc_core.specs.Exact.{RunSame}

-- the blocks of an inbox once these were taken out of it, and `rest` was left: the rest, or all as before; where the
-- keeper failed, some first ones may be gone
abbrev pub InboxLeft : Result Grouped CoreError → List Stored → List Stored → List Stored → Type 0
InboxLeft (Ok grouped) items rest new = new ≡ rest
InboxLeft (Err error) items rest new =
    ByKind (new ≡ items ++ rest) ((n : ℕ) × (new ≡ drop n (items ++ rest))) (new ≡ items ++ rest) (kind_of error)

-- what a replica's inbox and the rest of it are then
pub record TakesIn {K D : Type 0} {g : keeper.Ghosts K D} {h : counted.Ghosts K} {i : counted.Ghosts D}
    (result : Result Grouped CoreError) (items : List Stored) (old new : Replica K D g h i) : Type 0 where
  pub rest : RunSame old new
  pub counts : IfOk result (CountsGroup (shown old.queue) items)
  pub left : InboxLeft result items old.inbox.items new.inbox.items
  pub room_same : new.inbox.room ≡ old.inbox.room
  pub wanted : GroupWants result items (shown old.queue) (shown new.queue)
