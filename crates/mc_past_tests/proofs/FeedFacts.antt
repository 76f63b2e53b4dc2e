-- A feed of which a node asks that it was passed first ones of its blocks.
use Rattle.std.proofs.Common.{◌≡◌, ℕ, true, List, [], ◌∷◌, take, append-nil, refl, sym, subst, true≢false}
use Rattle.mc_base.specs.declared.counted.Counted as counted
use Rattle.mc_feed.specs.Feed.{IsFeed}
use Rattle.mc_feed.specs.declared.event.Event.{Event}
use Rattle.mc_feed.specs.declared.feed.Feed.{Feed}
use Rattle.mc_keep.specs.Calls.{Members}
use Rattle.mc_keep.specs.declared.keeper.Keeper as keeper
use Rattle.mc_model.specs.declared.block.Block.{Block}
use Rattle.mc_node.specs.declared.entry.Entry.{Entry}
use Rattle.mc_node.specs.declared.note.Note.{Note}
use Rattle.mc_node.specs.declared.note.Note.TheVariants as note
use Rattle.mc_node.specs.Entries.{is_open, is_rooted_log, items}
use Rattle.mc_node.specs.Feeds.{IsFeedOf, WasFeedOf}
use Rattle.mc_node.specs.Items.{is_root, is_unsealed}
use Rattle.mc_past.specs.Passings.{IsFed}

root_of : (noted : Note) → is_unsealed noted ≡ true → is_root noted ≡ true
root_of (note.Root sealed) e = refl
root_of note.Made e = absurd (true≢false (sym e))
root_of note.Heard e = absurd (true≢false (sym e))
root_of note.Fetched e = absurd (true≢false (sym e))
root_of note.Walked e = absurd (true≢false (sym e))
root_of note.Cleared e = absurd (true≢false (sym e))
root_of note.Halted e = absurd (true≢false (sym e))

-- one that was passed nothing was passed no block of any list
pub new_fed : {H : Type 0} (taken : H → List Event) (blocks : List Block) (feed : Feed H) → IsFeed taken [] feed → IsFed taken blocks feed
new_fed taken blocks feed is = subst (λ (n : ℕ). IsFeed taken (take n blocks) feed) (sym is.count) is

module _ {K D : Type 0} {g : keeper.Ghosts K D} {h : counted.Ghosts K} {i : counted.Ghosts D} (k : Members K D) {H : Type 0} (taken : H → List Event) (feed : Feed H) where
  rooted_open : (log : List (Entry K D g h i)) → is_open log ≡ true → is_rooted_log log ≡ true
  rooted_open [] unsealed = absurd (true≢false (sym unsealed))
  rooted_open (entry ∷ log) unsealed = root_of entry.note unsealed

  -- one that was passed first ones of the blocks that a log shows
  pub was_of : (log : List (Entry K D g h i)) → is_open log ≡ true → IsFeedOf taken (items k log) feed → WasFeedOf taken k log feed
  was_of log unsealed is = record { first = log; rooted = rooted_open log unsealed; begins = ([], append-nil log); feed = is }

  pub was_new : (log : List (Entry K D g h i)) → is_open log ≡ true → IsFeed taken [] feed → WasFeedOf taken k log feed
  was_new log unsealed is = was_of log unsealed (λ tells. new_fed taken _ feed is)
