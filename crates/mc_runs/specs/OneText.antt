-- Lines of which the definitions leave nothing open.
use Rattle.std.specs.Prelude.{◌≡◌, ⊤, Bool, true, false, not, List, map, Option, None, Some, is_some}
use Rattle.std.specs.List.{AllByRecursion, list_all}
use Rattle.mc_script.specs.declared.command.Command.{Command}
use Rattle.mc_script.specs.declared.command.Command.TheVariants.{Work, Repair, Storm, StopAt, StopAfter}
use Rattle.mc_script.specs.declared.reply.Reply.{Reply}
use Rattle.mc_script.specs.declared.reply.Reply.TheVariants.{RefusedClash, RefusedPriority, RefusedSize}
use Rattle.mc_runs.specs.Runs.{Answer}
use Rattle.mc_seats.specs.Worlds.{Place, WorldState}

-- whether a command has one outcome in each world whose contents are told, and where no keeper and no desk fails by
-- itself: all but those of workers and of writers; and those that arm a fuse where fuses may be armed
abbrev pub has_one_outcome : Bool → Command → Bool
has_one_outcome armed (Work r workers budget) = false
has_one_outcome armed (Repair r workers) = false
has_one_outcome armed (Storm r writers writes) = false
has_one_outcome armed (StopAt r commit) = armed
has_one_outcome armed (StopAfter r commit) = armed
has_one_outcome armed command = true

-- so has what was read of a line
abbrev pub IsOne : Bool → Option (Option Command) → Type 0
IsOne armed None = ⊤
IsOne armed (Some None) = ⊤
IsOne armed (Some (Some command)) = has_one_outcome armed command ≡ true

-- the content is told, and no fuse is armed where none may be
pub record IsOpen (armed : Bool) (place : Place) : Type 0 where
  pub told : is_some place.content ≡ true
  pub no_fuse : armed ≡ false → place.fuse ≡ None

-- so it is at all replicas of a world
abbrev pub AreOpen : Bool → WorldState → Type 0
AreOpen armed w = AllByRecursion (IsOpen armed) w.places

-- whether a block is refused that a command would make: for its size, its priority, or its identifier
abbrev pub refuses_block : Reply → Bool
refuses_block (RefusedSize len) = true
refuses_block RefusedPriority = true
refuses_block (RefusedClash cid) = true
refuses_block reply = false

abbrev pub blocks_none : Option Answer → Bool
blocks_none None = true
blocks_none (Some answer) = not (refuses_block answer.reply)

-- where fuses may be armed no answer refuses a block: of a block with the identifier of other bytes it is open whether
-- it is refused or the fuse fires
abbrev pub NoneRefused : Bool → List (Option Answer) → Type 0
NoneRefused armed answers = armed ≡ true → list_all blocks_none answers ≡ true

-- what is answered
abbrev pub said_by : Option Answer → Option Reply
said_by None = None
said_by (Some answer) = Some answer.reply

abbrev pub replies_in : List (Option Answer) → List (Option Reply)
replies_in answers = map said_by answers
