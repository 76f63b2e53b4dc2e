-- The face that a thread brings up to the processed blocks of a node.
use Rattle.std.specs.Prelude.{◌≡◌, true, List}
use Rattle.mc_base.specs.declared.counted.Counted as counted
use Rattle.mc_turn.specs.Lists.{Begins}
use Rattle.mc_model.specs.declared.block.Block.{Block}
use Rattle.mc_keep.specs.Calls.{Members}
use Rattle.mc_keep.specs.declared.keeper.Keeper as keeper
use Rattle.mc_face.specs.Lists.{Starts}
use Rattle.mc_node.specs.declared.entry.Entry.{Entry}
use Rattle.mc_node.specs.Entries.{is_rooted_log, items}
use Rattle.mc_node.specs.Items.{Item, blocks, tells}

-- its list is a beginning of the processed blocks that the log shows last, where the keeper tells
abbrev pub IsFaceOf : List Item → List Block → Type 0
IsFaceOf log list = tells log ≡ true → Starts (blocks log) list

-- it is of a log that began this one
pub record WasFaceOf {K D : Type 0} {g : keeper.Ghosts K D} {h : counted.Ghosts K} {i : counted.Ghosts D}
    (k : Members K D) (log : List (Entry K D g h i)) (list : List Block) : Type 0 where
  pub first : List (Entry K D g h i)
  pub rooted : is_rooted_log first ≡ true
  pub begins : Begins first log
  pub face : IsFaceOf (items k first) list

-- or all of them
abbrev pub IsWholeFace : List Item → List Block → Type 0
IsWholeFace log list = tells log ≡ true → list ≡ blocks log
