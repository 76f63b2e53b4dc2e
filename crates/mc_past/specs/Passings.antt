-- How the blocks of a replica are passed to a feed.
use Rattle.std.specs.Prelude.{◌≡◌, ⊤, ℕ, ◌+◌, ◌≤◌, Bool, true, false, List, length, take, Option, None, Some}
use Rattle.std.specs.Prelude.{Result, Ok, Err}
use Rattle.mc_feed.specs.Changes.{feed}
use Rattle.mc_feed.specs.Feed.{BeginsWith, IsFeed}
use Rattle.mc_feed.specs.declared.event.Event.{Event}
use Rattle.mc_feed.specs.declared.feed.Feed.{Feed}
use Rattle.mc_model.specs.declared.block.Block.{Block}
use Rattle.mc_plan.specs.Refusals.{ByKind, kind_of}
use Rattle.mc_plan.specs.declared.error.CoreError.{CoreError}
use Rattle.mc_past.specs.Past.{changes_between}

module _ {H : Type 0} (taken : H → List Event) (blocks : List Block) where
  -- the blocks that were passed are the first ones of these
  abbrev pub IsFed : Feed H → Type 0
  IsFed now = IsFeed taken (take now.length blocks) now

  -- they are those before a position
  pub record IsFedTo (position : ℕ) (now : Feed H) : Type 0 where
    pub inside : position ≤ length blocks
    pub is : IsFeed taken (take position blocks) now

  -- They are the first ones of these; and where the next one was refused for want of memory, the hook has taken the
  -- events of those, and then some first ones of the next.
  pub record FedUpTo (now : Feed H) : Type 0 where
    pub first : IsFed now
    pub part : now.spent ≡ true
        → BeginsWith (feed (take now.length blocks)) (taken now.hook) (changes_between now.length 1 blocks)

  -- what becomes of a feed where the block at a position is passed, or there is none
  abbrev pub PassesOne : Bool → ℕ → Feed H → Feed H → Type 0
  PassesOne true position old new = IsFedTo position old → IsFedTo (position + 1) new
  PassesOne false position old new = (length blocks ≤ position) × (new ≡ old)

  -- what is answered where all are passed: how many they are, or none where the feed was spent before
  abbrev pub PassesAll : Feed H → Feed H → Option ℕ → Type 0
  PassesAll old new None = old.spent ≡ true
  PassesAll old new (Some count) = IsFed old → IsFeed taken blocks new × (count ≡ length blocks)

-- what is said of a feed over every keeper: one that wasn't spent goes on, but after a want of memory
abbrev pub GoesOn : {H T : Type 0} → Feed H → Result T CoreError → Type 0
GoesOn now (Ok value) = now.spent ≡ false
GoesOn now (Err error) = ByKind ⊤ (now.spent ≡ false) ⊤ (kind_of error)

-- and one that was spent before stays as it was
abbrev pub Goes : {H : Type 0} → Feed H → Feed H → Result (Option ℕ) CoreError → Type 0
Goes old new (Ok None) = (old.spent ≡ true) × (new ≡ old)
Goes old new (Ok (Some count)) = (old.spent ≡ false) × (new.spent ≡ false)
Goes old new (Err error) =
    ByKind (new ≡ old) ((old.spent ≡ false) × (new.spent ≡ false)) (old.spent ≡ false) (kind_of error)
