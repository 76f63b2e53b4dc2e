-- How the events of blocks are told, a block at a time.
use Rattle.std.specs.Prelude.{◌≡◌, ℕ, ◌+◌, ◌≤◌, ◌<◌, Bool, true, false, List, length, take}
use Rattle.mc_feed.specs.declared.event.Event.{Event}
use Rattle.mc_live.specs.Stands.{Stands}
use Rattle.mc_live.specs.declared.live.Live.{Live}
use Rattle.mc_model.specs.declared.block.Block.{Block}
use Rattle.mc_past.specs.Past.{changes_between}
use Rattle.mc_past.specs.declared.past.Past.{Past}

-- the values are those of the blocks before a position, and the events those of so many blocks before it
pub record IsTelling (blocks : List Block) (from number : ℕ) (live : Live) (events : List Event) : Type 0 where
  pub values : Stands (take (from + number) blocks) live
  pub told : events ≡ changes_between from number blocks

-- whether what is kept has the values of as many first blocks as this, or there are no more blocks than these
abbrev pub Reaches : Bool → ℕ → List Block → Past → Type 0
Reaches true from blocks past = past.length ≡ from
Reaches false from blocks past = length blocks ≤ from

-- what becomes of the values where the block at a position is taken, or there is none
abbrev pub Takes : Bool → ℕ → List Block → Live → Live → Type 0
Takes true position blocks old new =
    (position < length blocks) × (Stands (take position blocks) old → Stands (take (position + 1) blocks) new)
Takes false position blocks old new = (length blocks ≤ position) × (new ≡ old)

-- and of the events
abbrev pub Tells : Bool → ℕ → List Block → Live → Live → List Event → List Event → Type 0
Tells true position blocks old new before after =
    (position < length blocks)
    × ((from number : ℕ) → position ≡ from + number → IsTelling blocks from number old before →
    IsTelling blocks from (number + 1) new after)
Tells false position blocks old new before after = (length blocks ≤ position) × (new ≡ old) × (after ≡ before)
