-- The feed to which a thread passes the processed blocks of a node.
use Rattle.std.specs.Prelude.{◌≡◌, ⊤, ℕ, true, false, List, length, Option, Some, None, Result, Ok, Err}
use Rattle.mc_base.specs.declared.counted.Counted as counted
use Rattle.mc_turn.specs.Lists.{Begins}
use Rattle.mc_feed.specs.Feed.{IsFeed}
use Rattle.mc_feed.specs.declared.event.Event.{Event}
use Rattle.mc_feed.specs.declared.feed.Feed.{Feed}
use Rattle.mc_model.specs.Kept.{processed}
use Rattle.mc_keep.specs.Calls.{Members}
use Rattle.mc_keep.specs.declared.keeper.Keeper as keeper
use Rattle.mc_core.specs.Calls.{Stays}
use Rattle.mc_core.specs.Reads.{OnlyReads, read_refusal}
use Rattle.mc_core.specs.Refusals.{ByKind, Is, kind_of}
use Rattle.mc_core.specs.declared.CoreError.{CoreError}
use Rattle.mc_core.specs.declared.CoreError.TheVariants as core
use Rattle.mc_past.specs.Passings.{FedUpTo, IsFed, PassesAll}
use Rattle.mc_node.specs.declared.entry.Entry.{Entry}
use Rattle.mc_node.specs.declared.error.NodeFeedError.{NodeFeedError}
use Rattle.mc_node.specs.declared.error.NodeFeedError.TheVariants.{Stopped, KeeperFault, Spent, Memory}
use Rattle.mc_node.specs.Entries.{is_rooted_log, items}
use Rattle.mc_node.specs.Items.{Item, blocks, tells}
use Rattle.mc_node.specs.Moves.{Does, NoMore}

module _ {H : Type 0} (taken : H → List Event) where
  -- the blocks that were passed are first ones of the processed blocks that the log shows last, where the keeper tells
  abbrev pub IsFeedOf : List Item → Feed H → Type 0
  IsFeedOf log feed = tells log ≡ true → IsFed taken (blocks log) feed

  -- they are all of them, and so many
  abbrev pub IsWholeFeed : List Item → Feed H → ℕ → Type 0
  IsWholeFeed log feed count = tells log ≡ true → IsFeed taken (blocks log) feed × (count ≡ length (blocks log))

  -- they are first ones, and the hook may have taken some first events of one more
  abbrev pub IsPartFeed : List Item → Feed H → Type 0
  IsPartFeed log feed = tells log ≡ true → FedUpTo taken (blocks log) feed

  -- they are first ones of those of a log that began this one
  pub record WasFeedOf {K D : Type 0} {g : keeper.Ghosts K D} {h : counted.Ghosts K} {i : counted.Ghosts D}
      (k : Members K D) (log : List (Entry K D g h i)) (now : Feed H) : Type 0 where
    pub first : List (Entry K D g h i)
    pub rooted : is_rooted_log first ≡ true
    pub begins : Begins first log
    pub feed : IsFeedOf (items k first) now

-- an answer as that of a read of the replica, which finds how many blocks were passed, or that the feed was spent
abbrev pub read_of : Result ℕ NodeFeedError → Result (Option ℕ) CoreError
read_of (Ok count) = Ok (Some count)
read_of (Err Spent) = Ok None
read_of (Err Stopped) = Err core.Stopped
read_of (Err KeeperFault) = Err core.KeeperFault
read_of (Err Memory) = Err core.Memory

-- the errors that it has then
abbrev pub IsFeedError : CoreError → Type 0
IsFeedError core.Stopped = ⊤
IsFeedError core.KeeperFault = ⊤
IsFeedError core.Memory = ⊤
IsFeedError error = ⊥

-- a read of the replica that passes its blocks
abbrev pub PassDoes : {H : Type 0} → (H → List Event) → Feed H → Feed H → Result (Option ℕ) CoreError → List Item
    → List Item → Type 0
PassDoes taken old new result =
    Does None None (λ s. Is (read_refusal s)) (OnlyReads (λ kept. PassesAll taken (processed kept) old new)) Stays
    NoMore None result

abbrev pub FeedDoes : {H : Type 0} → (H → List Event) → Feed H → Feed H → Result ℕ NodeFeedError → List Item
    → List Item → Type 0
FeedDoes taken old new result = PassDoes taken old new (read_of result)

-- What becomes of the feed, over every keeper: one that was spent stays as it was, and is refused; another goes on, but
-- after a want of memory.
abbrev pub PassGoes : {H : Type 0} → Feed H → Feed H → Result (Option ℕ) CoreError → Type 0
PassGoes old new (Ok None) = (old.spent ≡ true) × (new ≡ old)
PassGoes old new (Ok (Some count)) = (old.spent ≡ false) × (new.spent ≡ false)
PassGoes old new (Err error) =
    ByKind (new ≡ old) ((old.spent ≡ false) × (new.spent ≡ false)) (old.spent ≡ true → new ≡ old) (kind_of error)

abbrev pub FeedGoes : {H : Type 0} → Feed H → Feed H → Result ℕ NodeFeedError → Type 0
FeedGoes old new (Ok count) = (old.spent ≡ false) × (new.spent ≡ false)
FeedGoes old new (Err Spent) = (old.spent ≡ true) × (new ≡ old)
FeedGoes old new (Err Stopped) = new ≡ old
FeedGoes old new (Err KeeperFault) = (old.spent ≡ false) × (new.spent ≡ false)
FeedGoes old new (Err Memory) = old.spent ≡ true → new ≡ old
