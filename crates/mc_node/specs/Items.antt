-- The log of a node, as contracts read it: what each entry notes, and what the replica showed then.
use Rattle.std.specs.Prelude.{ℕ, Bool, true, false, not, ◌||◌, List, [], ◌∷◌, fold, Option, Some, None, is_some}
use Rattle.mc_model.specs.declared.block.Block.{Block}
use Rattle.mc_model.specs.Kept.{Kept}
use Rattle.mc_model.specs.State.{Running, blocks_of}
use Rattle.mc_model.specs.Wanted.{no_queue}
use Rattle.mc_keep.specs.Plan.{Schedule}
use Rattle.mc_keep.specs.declared.fuse.Fuse.{Fuse}
use Rattle.mc_core.specs.Counted.{run_of}
use Rattle.mc_core.specs.Events.{ReplicaState, state_of}
use Rattle.mc_node.specs.declared.note.Note.{Note}
use Rattle.mc_node.specs.declared.note.Note.TheVariants.{Root, Made, Heard, Fetched, Walked, Cleared, Halted}

-- what a replica shows: what its keeper tells and counts, and what would be lost at a stop
pub record Shown : Type 0 where
  pub told : Option Kept
  pub fuse : Option Fuse
  pub own : ℕ
  pub faults : ℕ
  pub quiet : Bool
  pub schedule : Option Schedule
  pub stopped : Bool
  pub run : Running

-- the replica's state, where its keeper tells
abbrev pub state_in : Shown → Option ReplicaState
state_in shown = state_of shown.told shown.fuse (run_of shown.stopped shown.run)

-- one entry
pub record Item : Type 0 where
  pub note : Note
  pub shown : Shown

-- what an empty log shows, which no node has
abbrev pub nothing_shown : Shown
nothing_shown = record {
  told = None;
  fuse = None;
  own = 0;
  faults = 0;
  quiet = false;
  schedule = None;
  stopped = false;
  run = record { queue = no_queue; walk = None; batch = None; whole = false };
}

-- what was shown when the node was made, and what the last entry shows
abbrev pub root : List Item → Shown
root [] = nothing_shown
root (item ∷ items) = item.shown

abbrev pub last : List Item → Shown
last items = fold (λ shown item. item.shown) nothing_shown items

-- the state that the last entry shows, and the processed blocks, where they are told
abbrev pub last_state : List Item → Option ReplicaState
last_state items = state_in (last items)

abbrev pub blocks_in : Option ReplicaState → List Block
blocks_in None = []
blocks_in (Some s) = blocks_of s.state.durable

abbrev pub blocks : List Item → List Block
blocks items = blocks_in (last_state items)

-- whether the keeper told when the node was made
abbrev pub tells : List Item → Bool
tells items = is_some (root items).told

-- whether a log begins with a root, and with one that is sealed
abbrev pub is_root : Note → Bool
is_root (Root sealed) = true
is_root Made = false
is_root Heard = false
is_root Fetched = false
is_root Walked = false
is_root Cleared = false
is_root Halted = false

abbrev pub is_unsealed : Note → Bool
is_unsealed (Root sealed) = not sealed
is_unsealed Made = false
is_unsealed Heard = false
is_unsealed Fetched = false
is_unsealed Walked = false
is_unsealed Cleared = false
is_unsealed Halted = false

abbrev pub is_sealing : Note → Bool
is_sealing (Root sealed) = sealed
is_sealing Made = false
is_sealing Heard = false
is_sealing Fetched = false
is_sealing Walked = false
is_sealing Cleared = false
is_sealing Halted = false

abbrev pub is_first : (Note → Bool) → List Item → Bool
is_first test [] = false
is_first test (item ∷ items) = test item.note

abbrev pub is_rooted : List Item → Bool
is_rooted items = is_first is_root items

abbrev pub is_sealed : List Item → Bool
is_sealed items = is_first is_sealing items

-- whether an entry of this kind is there
abbrev pub has_note : (Note → Bool) → List Item → Bool
has_note test [] = false
has_note test (item ∷ items) = test item.note || has_note test items

abbrev pub is_halt : Note → Bool
is_halt Halted = true
is_halt (Root sealed) = false
is_halt Made = false
is_halt Heard = false
is_halt Fetched = false
is_halt Walked = false
is_halt Cleared = false

abbrev pub is_walk : Note → Bool
is_walk Walked = true
is_walk Cleared = true
is_walk (Root sealed) = false
is_walk Made = false
is_walk Heard = false
is_walk Fetched = false
is_walk Halted = false

-- what a sealed log does not have
abbrev pub is_callers : Note → Bool
is_callers Made = true
is_callers Heard = true
is_callers Fetched = false
is_callers (Root sealed) = false
is_callers Walked = false
is_callers Cleared = false
is_callers Halted = false

-- an entry of a block that workers fetched
abbrev pub is_fetched : Note → Bool
is_fetched Fetched = true
is_fetched (Root sealed) = false
is_fetched Made = false
is_fetched Heard = false
is_fetched Walked = false
is_fetched Cleared = false
is_fetched Halted = false

abbrev pub has_halted : List Item → Bool
has_halted items = has_note is_halt items

abbrev pub has_walked : List Item → Bool
has_walked items = has_note is_walk items
