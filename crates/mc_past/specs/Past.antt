-- What is read of the past of processed blocks.
use Rattle.std.specs.Prelude.{◌≡◌, ℕ, ◌+◌, Bool, true, false, ◌&&◌, nat_le, nat_lt, List, filter, length, take, drop}
use Rattle.std.specs.Prelude.{Option, None, Some}
use Rattle.mc_base.specs.declared.cid.Cid.{Cid}
use Rattle.mc_feed.specs.Changes.{feed, feed_from}
use Rattle.mc_feed.specs.declared.event.Event.{Event}
use Rattle.mc_model.specs.declared.block.Block.{Block}
use Rattle.mc_model.specs.Ascending.{is_once}
use Rattle.mc_model.specs.Front.{same_cid, is_processed}
use Rattle.mc_model.specs.Live.{value}
use Rattle.mc_view.specs.Reach.{IsViewOf}
use Rattle.mc_view.specs.View.{cids_of}

-- the events of so many blocks from a position on, after those before it
abbrev pub changes_between : ℕ → ℕ → List Block → List Event
changes_between from count blocks = feed_from from (take from blocks) (take count (drop from blocks))

-- whether an event is of one of these positions
abbrev pub is_between : ℕ → ℕ → Event → Bool
is_between from count event = nat_le from event.position && nat_lt event.position (from + count)

-- they are the events of the whole feed at these positions, and from the first block to the last the whole feed
abbrev pub ChangesAreFeed : Type 0
ChangesAreFeed = (from count : ℕ) (blocks : List Block) →
    changes_between from count blocks ≡ filter (is_between from count) (feed blocks)

abbrev pub AllChangesAreFeed : Type 0
AllChangesAreFeed = (blocks : List Block) → changes_between 0 (length blocks) blocks ≡ feed blocks

-- the value of a key over the blocks that are reached from a processed one, and none where it isn't processed
abbrev pub IsFoundBelow : Cid → List ℕ → List Block → Option (Option (List ℕ)) → Type 0
IsFoundBelow cid key blocks None = is_processed blocks cid ≡ false
IsFoundBelow cid key blocks (Some found) =
    (is_processed blocks cid ≡ true) × ((below : List Block) × IsViewOf blocks cid below × (found ≡ value below key))

-- there is one such answer, whatever list of the blocks that are reached it is of
abbrev pub FoundsAreOne : Type 0
FoundsAreOne =
    (blocks : List Block) (cid : Cid) (key : List ℕ) (one other : Option (Option (List ℕ))) →
    is_once same_cid (cids_of blocks) ≡ true → IsFoundBelow cid key blocks one → IsFoundBelow cid key blocks other →
    one ≡ other
