-- A feed beside the processed blocks that a log shows.
use Rattle.std.proofs.Common.{◌≡◌, ℕ, ◌≤◌, arith, Bool, true, false, List, length, take, Option, Some, None, Result, Ok, Err, refl, sym, ap, ◌∙◌, subst}
use Rattle.std.specs.Prelude.{IfErr, IfOk, IfSome, OnErr, is_some}
use Rattle.std.proofs.lemmas.Bool.{false≢true}
use Rattle.std.proofs.lemmas.List.{length-take, take-take, take_all}
use Rattle.mc_base.specs.Causes.{Rose}
use Rattle.mc_base.specs.Told.{Told}
use Rattle.mc_base.proofs.Telling.{told_weaker}
use Rattle.mc_base.specs.declared.counted.Counted as counted
use Rattle.mc_turn.specs.Lists.{Begins}
use Rattle.mc_turn.proofs.Lists.{begins_trans}
use Rattle.mc_feed.specs.Feed.{IsFeed}
use Rattle.mc_feed.specs.declared.event.Event.{Event}
use Rattle.mc_feed.specs.declared.feed.Feed.{Feed}
use Rattle.mc_model.specs.declared.block.Block.{Block}
use Rattle.mc_model.specs.Kept.{IsKept, Kept, processed}
use Rattle.mc_keep.specs.Causes.{Fault, IfTold, Kind, Refusal, Shortage}
use Rattle.mc_keep.specs.Plan.{Schedule}
use Rattle.mc_keep.specs.declared.fuse.Fuse.{Fuse}
use Rattle.mc_keep.specs.declared.keeper.Keeper as keeper
use Rattle.mc_face.specs.Lists.{Starts}
use Rattle.mc_core.specs.Calls.{Call, Stays}
use Rattle.mc_core.specs.Counted.{run_of}
use Rattle.mc_core.specs.Events.{state_of}
use Rattle.mc_core.specs.Exact.{DecidesAlone, RestSame, TellsSameAt, front_of, seen_of, stop_front}
use Rattle.mc_core.specs.Reads.{OnlyReads, read_refusal}
use Rattle.mc_core.specs.Refusals.{ByKind, Is, is_fault, kind_of}
use Rattle.mc_core.specs.Replica.{replica_state}
use Rattle.mc_core.specs.Words.{ContinuesAt}
use Rattle.mc_core.specs.declared.CoreError.{CoreError}
use Rattle.mc_core.specs.declared.CoreError.TheVariants as core
use Rattle.mc_core.specs.declared.replica.Replica.{Replica}
use Rattle.mc_past.specs.Passings.{FedUpTo, Goes as FeedWent, IsFed, PassesAll}
use Rattle.mc_node.specs.declared.entry.Entry.{Entry}
use Rattle.mc_node.specs.declared.error.NodeFeedError.{NodeFeedError}
use Rattle.mc_node.specs.declared.error.NodeFeedError.TheVariants.{KeeperFault, Memory, Spent, Stopped}
use Rattle.mc_node.specs.declared.note.Note.{Note}
use Rattle.mc_node.specs.Entries.{AddsEntry, is_open, is_rooted_log, items_at, shown_at}
use Rattle.mc_node.specs.Feeds.{FeedGoes, IsFeedError, IsFeedOf, IsPartFeed, IsWholeFeed, PassGoes, read_of}
use Rattle.mc_node.specs.Items.{Item, Shown, blocks, blocks_in, is_rooted, is_sealed, is_unsealed, state_in, tells}
use Rattle.mc_node.specs.Moves.{BeginsNot, Does, NoMore, note_of}
use Rattle.mc_node.specs.Ties.{IsGrowing, IsTied}
use Rattle.mc_node.specs.Works.{Bounds}
use Rattle.mc_node.proofs.CallFacts.{BackLaw, BreakLaw, GoLaw, acts_of, adds_items, does_end, front_short, leaves_same, stays_goes}
use Rattle.mc_node.proofs.FaceFacts.{begins_items, blocks_first, blocks_told, rooted_items, tells_stays}
use Rattle.mc_node.proofs.ItemFacts.{longer_on}
use Rattle.mc_node.proofs.ReplicaFacts.{no_more, open_unsealed}
use Rattle.mc_node.proofs.SeatFacts.{begins_on}
use Rattle.mc_node.proofs.WorkFacts.{Step, read_step}

-- the errors of a read

pub begin_errors : (stopped : Bool) (error : CoreError) → BeginsNot stopped error → IsFeedError error
begin_errors true error is = subst IsFeedError (sym is) tt
begin_errors false error is = subst IsFeedError (sym is) tt

pub read_errors : {T : Type 0} (result : Result T CoreError) (stopped : Bool) → stopped ≡ false → front_of result ≡ stop_front stopped None → IfErr result DecidesAlone → IfErr result IsFeedError
read_errors (Ok value) stopped runs front alone = tt
read_errors {T} (Err error) stopped runs front alone = over error (front ∙ ap (λ b. stop_front b None) runs) alone
  where
    over : (error : CoreError) → seen_of error ≡ None → DecidesAlone error → IsFeedError error
    over (core.BadKey fault) seen alone = absurd (false≢true (sym (ap is_some seen)))
    over core.ValueTooLong seen alone = absurd (false≢true (sym (ap is_some seen)))
    over (core.BlockTooLarge len) seen alone = absurd (false≢true (sym alone))
    over core.PriorityFull seen alone = absurd (false≢true (sym alone))
    over (core.Clash cid) seen alone = absurd (false≢true (sym alone))
    over core.KeeperFault seen alone = tt
    over core.Stopped seen alone = tt
    over (core.BadCast fault) seen alone = absurd (false≢true (sym (ap is_some seen)))
    over core.NoBatch seen alone = absurd (false≢true (sym (ap is_some seen)))
    over core.BatchOpen seen alone = absurd (false≢true (sym (ap is_some seen)))
    over core.Memory seen alone = tt

-- what becomes of the feed

pub begin_goes : {H : Type 0} (now : Feed H) (stopped : Bool) (error : CoreError) → BeginsNot stopped error → PassGoes now now (Err error)
begin_goes now true error is = subst (λ (e : CoreError). PassGoes now now (Err e)) (sym is) refl
begin_goes now false error is = subst (λ (e : CoreError). PassGoes now now (Err e)) (sym is) (λ spent. refl)

pub pass_goes : {H : Type 0} (old new : Feed H) (result : Result (Option ℕ) CoreError) → FeedWent old new result → PassGoes old new result
pass_goes old new (Ok None) went = went
pass_goes old new (Ok (Some count)) went = went
pass_goes old new (Err error) went = by_kind (kind_of error) went
  where
    by_kind : (kind : Kind) → ByKind (new ≡ old) ((old.spent ≡ false) × (new.spent ≡ false)) (old.spent ≡ false) kind → ByKind (new ≡ old) ((old.spent ≡ false) × (new.spent ≡ false)) (old.spent ≡ true → new ≡ old) kind
    by_kind Refusal went = went
    by_kind Fault went = went
    by_kind Shortage went = λ spent. absurd (false≢true (sym went ∙ spent))

pub feed_goes : {H : Type 0} (old new : Feed H) (result : Result ℕ NodeFeedError) (passed : Result (Option ℕ) CoreError) → read_of result ≡ passed → PassGoes old new passed → FeedGoes old new result
feed_goes old new result passed is goes = of_result result (subst (PassGoes old new) (sym is) goes)
  where
    of_result : (result : Result ℕ NodeFeedError) → PassGoes old new (read_of result) → FeedGoes old new result
    of_result (Ok count) goes = goes
    of_result (Err Spent) goes = goes
    of_result (Err Stopped) goes = goes
    of_result (Err KeeperFault) goes = goes
    of_result (Err Memory) goes = goes

module _ {H : Type 0} (taken : H → List Event) where
  -- a feed of first ones of some blocks is one of first ones of more
  fed_longer : (xs zs : List Block) (now : Feed H) → Starts zs xs → IsFed taken xs now → IsFed taken zs now
  fed_longer xs zs now starts fed = subst (λ (bs : List Block). IsFeed taken bs now) same fed
    where
      short : now.length ≤ length xs
      short = omega (arith, fed.count, length-take now.length xs)

      same : take now.length xs ≡ take now.length zs
      same = ap (take now.length) (sym starts) ∙ take-take now.length (length xs) zs short

  fed_whole : (xs : List Block) (now : Feed H) → IsFeed taken xs now → IsFed taken xs now
  fed_whole xs now fed = subst (λ (bs : List Block). IsFeed taken bs now) (sym (take_all now.length xs (omega (arith, fed.count)))) fed

  -- what is said of the blocks that a log shows is said of those that the replica has

  tells_now : (limit : Bounds) (now : Shown) (log : List Item) → IsTied limit now log → now.told ≡ None → tells log ≡ true → ⊥
  tells_now limit now log tied none tell = false≢true (sym (ap is_some none) ∙ tied.telling ∙ tell)

  pub feed_begins : (back : BackLaw) (limit : Bounds) (now : Shown) (first log : List Item) (feed : Feed H) → is_rooted first ≡ true → IsTied limit now log → Begins first log → IsFeedOf taken first feed → IfSome now.told (λ kept. IsFed taken (processed kept) feed)
  feed_begins back limit now first log feed rooted tied begins was = over now.told refl
    where
      over : (told : Option Kept) → now.told ≡ told → IfSome told (λ kept. IsFed taken (processed kept) feed)
      over None e = tt
      over (Some kept) e =
          let here : blocks_in (state_in now) ≡ processed kept = ap (λ (o : Option Kept). blocks_in (state_of o now.fuse (run_of now.stopped now.run))) e ∙ ap processed (back kept) in
          fed_longer (blocks first) (processed kept) feed
          (longer_on (blocks first) (blocks log) (processed kept) (blocks_first first log tied.grown begins) (subst (λ (bs : List Block). take (length (blocks log)) bs ≡ blocks log) here tied.moment.grows))
          (was (sym (tells_stays first log rooted begins) ∙ sym tied.telling ∙ ap is_some e))

  module _ (back : BackLaw) (limit : Bounds) (old now : Shown) (log : List Item) (first new : Feed H) (tied : IsTied limit now log) (unsealed : is_sealed log ≡ false) (same : now.told ≡ old.told) (fed : IfSome old.told (λ kept. IsFed taken (processed kept) first)) where
    whole_told : (told : Option Kept) (count : ℕ) → now.told ≡ told → IfSome told (λ kept. IsFed taken (processed kept) first) → IfSome told (λ kept. PassesAll taken (processed kept) first new (Some count)) → IsWholeFeed taken log new count
    whole_told None count e fed all = λ tell. absurd (tells_now limit now log tied e tell)
    whole_told (Some kept) count e fed all = λ tell.
        let here = blocks_told back limit now log kept tied unsealed e in
        let passed = all fed in
        (subst (λ (bs : List Block). IsFeed taken bs new) (sym here) passed.0, passed.1 ∙ ap length (sym here))

    pub feed_whole : (result : Result (Option ℕ) CoreError) → IfTold old.told result (λ kept passed. PassesAll taken (processed kept) first new passed) → IfOk result (λ passed. IfSome passed (IsWholeFeed taken log new))
    feed_whole (Ok None) all = tt
    feed_whole (Ok (Some count)) all = whole_told old.told count same fed all
    feed_whole (Err error) all = tt

    part_told : (told : Option Kept) → now.told ≡ told → IfSome told (λ kept. IsFed taken (processed kept) first) → first.spent ≡ false → IfSome told (λ kept. first.spent ≡ false → IsFed taken (processed kept) first → FedUpTo taken (processed kept) new) → IsPartFeed taken log new
    part_told None e fed unspent part = λ tell. absurd (tells_now limit now log tied e tell)
    part_told (Some kept) e fed unspent part = λ tell. subst (λ (bs : List Block). FedUpTo taken bs new) (sym (blocks_told back limit now log kept tied unsealed e)) (part unspent fed)

    pub feed_part : (result : Result (Option ℕ) CoreError) → first.spent ≡ false → OnErr result (IfSome old.told (λ kept. first.spent ≡ false → IsFed taken (processed kept) first → FedUpTo taken (processed kept) new)) → OnErr result (IsPartFeed taken log new)
    feed_part (Ok value) unspent part = tt
    feed_part (Err error) unspent part = part_told old.told same fed unspent part

  -- after a call the feed is one of first ones of what the log shows
  pub feed_after : (first log : List Item) (old new : Feed H) (result : Result ℕ NodeFeedError) → is_rooted first ≡ true → IsGrowing log → Begins first log → IsFeedOf taken first old → IfOk result (IsWholeFeed taken log new) → (old.spent ≡ false → OnErr result (IsPartFeed taken log new))
      → FeedGoes old new result → IsFeedOf taken log new
  feed_after first log old new (Ok count) rooted grows begins was whole part goes = λ tell. fed_whole (blocks log) new (whole tell).0
  feed_after first log old new (Err error) rooted grows begins was whole part goes = by_spent old.spent refl
    where
      still : (error : NodeFeedError) → FeedGoes old new (Err error) → old.spent ≡ true → new ≡ old
      still Spent goes e = goes.1
      still Stopped goes e = goes
      still KeeperFault goes e = absurd (false≢true (sym goes.0 ∙ e))
      still Memory goes e = goes e

      by_spent : (b : Bool) → old.spent ≡ b → IsFeedOf taken log new
      by_spent false e = λ tell. ((part e) tell).first
      by_spent true e = subst (IsFeedOf taken log) (sym (still error goes e)) (λ tell. fed_longer (blocks first) (blocks log) old (blocks_first first log grows begins) (was (sym (tells_stays first log rooted begins) ∙ tell)))

  -- the answers of a feed

  pub answer_whole : (log : List Item) (new : Feed H) (result : Result ℕ NodeFeedError) (passed : Result (Option ℕ) CoreError) → read_of result ≡ passed → IfOk passed (λ found. IfSome found (IsWholeFeed taken log new)) → IfOk result (IsWholeFeed taken log new)
  answer_whole log new result passed is whole = of_result result (subst (λ (r : Result (Option ℕ) CoreError). IfOk r (λ found. IfSome found (IsWholeFeed taken log new))) (sym is) whole)
    where
      of_result : (result : Result ℕ NodeFeedError) → IfOk (read_of result) (λ found. IfSome found (IsWholeFeed taken log new)) → IfOk result (IsWholeFeed taken log new)
      of_result (Ok count) whole = whole
      of_result (Err error) whole = tt

  pub answer_part : (log : List Item) (old new : Feed H) (result : Result ℕ NodeFeedError) (passed : Result (Option ℕ) CoreError) → read_of result ≡ passed → FeedGoes old new result → (old.spent ≡ false → OnErr passed (IsPartFeed taken log new))
      → old.spent ≡ false → OnErr result (IsPartFeed taken log new)
  answer_part log old new result passed is goes part unspent = of_result result goes (subst (λ (r : Result (Option ℕ) CoreError). OnErr r (IsPartFeed taken log new)) (sym is) (part unspent))
    where
      of_result : (result : Result ℕ NodeFeedError) → FeedGoes old new result → OnErr (read_of result) (IsPartFeed taken log new) → OnErr result (IsPartFeed taken log new)
      of_result (Ok count) goes part = tt
      of_result (Err Spent) goes part = absurd (false≢true (sym unspent ∙ goes.0))
      of_result (Err Stopped) goes part = part
      of_result (Err KeeperFault) goes part = part
      of_result (Err Memory) goes part = part

module _ {K D : Type 0} {g : keeper.Ghosts K D} {h : counted.Ghosts K} {i : counted.Ghosts D} (told : K → Option Kept) (fuse : K → Option Fuse) (own faults : K → ℕ) (quiet : K → Bool) (schedule : K → Option Schedule) where
  -- a read that has begun, to its end
  pub pass_ends : {A : Type 0} (go : GoLaw) (break : BreakLaw) (back : BackLaw) (P : Kept → A → Type 0) (limit : Bounds) (old new : Replica K D g h i) (first log log' : List (Entry K D g h i)) (entry : Option Note) (result : Result A CoreError)
      → IsTied limit (shown_at told fuse own faults quiet schedule old) (items_at told fuse own faults quiet schedule log) → log ≡ first → old.stopped ≡ false → IfSome (told old.keeper) IsKept
      → Told (replica_state told fuse old) (replica_state told fuse new) (λ s after. Call (Is (read_refusal s)) (OnlyReads P s) (Stays s) (Rose (own old.keeper) (own new.keeper)) result s after)
      → ContinuesAt told fuse own faults quiet schedule (is_fault result) old new → RestSame old new → front_of result ≡ stop_front old.stopped None → entry ≡ note_of None None result → AddsEntry entry new log log' → TellsSameAt told fuse old new
      → IsTied limit (shown_at told fuse own faults quiet schedule new) (items_at told fuse own faults quiet schedule log')
      × Does None None (λ s. Is (read_refusal s)) (OnlyReads P) Stays NoMore None result (items_at told fuse own faults quiet schedule first) (items_at told fuse own faults quiet schedule log')
  pass_ends go break back P limit old new first log log' entry result tied is runs sound call continues rest fronts noted adds same =
      let acts = acts_of told fuse own faults quiet schedule (λ s. Is (read_refusal s)) (OnlyReads P) Stays NoMore result old new call (no_more _ _ _ call) continues rest in
      let both = does_end go break back None None (λ s. Is (read_refusal s)) (OnlyReads P) Stays stays_goes NoMore None limit (shown_at told fuse own faults quiet schedule old) (shown_at told fuse own faults quiet schedule new)
      (items_at told fuse own faults quiet schedule log) (items_at told fuse own faults quiet schedule log') result tied runs sound acts
      (λ sealed failed. told_weaker (λ s after. Call (Is (read_refusal s)) (OnlyReads P s) (Stays s) (Rose (own old.keeper) (own new.keeper)) result s after) (Step limit true)
      (λ s after call. read_step (λ s. Is (read_refusal s)) P limit (Rose (own old.keeper) (own new.keeper)) result s after failed call) (replica_state told fuse old) (replica_state told fuse new) acts.call)
      (front_short result old.stopped None fronts runs) tt tt
      (adds_items told fuse own faults quiet schedule (note_of None None result) new log log log' refl (subst (λ (m : Option Note). AddsEntry m new log log') noted adds))
      (λ none. leaves_same told fuse own faults quiet schedule old new same rest) in (
        both.0,
        subst (λ (l : List (Entry K D g h i)). Does None None (λ s. Is (read_refusal s)) (OnlyReads P) Stays NoMore None result (items_at told fuse own faults quiet schedule l) (items_at told fuse own faults quiet schedule log')) is both.1,
      )

  -- a log that began unsealed is unsealed after more entries
  pub stays_unsealed : (first log : List (Entry K D g h i)) → is_open first ≡ true → Begins first log → is_sealed (items_at told fuse own faults quiet schedule log) ≡ false
  stays_unsealed first log unsealed begins = open_unsealed told fuse own faults quiet schedule log log refl (begins_on is_unsealed first log unsealed begins)

  -- the same at a seat of a node
  module _ {H : Type 0} (taken : H → List Event) where
    pub seat_fed : (back : BackLaw) (limit : Bounds) (replica : Replica K D g h i) (first seen log : List (Entry K D g h i)) (feed : Feed H) → is_rooted_log first ≡ true → Begins first seen → Begins seen log
        → IsTied limit (shown_at told fuse own faults quiet schedule replica) (items_at told fuse own faults quiet schedule log) → IsFeedOf taken (items_at told fuse own faults quiet schedule first) feed → IfSome (told replica.keeper) (λ kept. IsFed taken (processed kept) feed)
    seat_fed back limit replica first seen log feed rooted early begins tied was =
        feed_begins taken back limit (shown_at told fuse own faults quiet schedule replica) (items_at told fuse own faults quiet schedule first) (items_at told fuse own faults quiet schedule log) feed (rooted_items told fuse own faults quiet schedule first rooted) tied
        (begins_items told fuse own faults quiet schedule first log (begins_trans first seen log early begins)) was

    module _ (seen log new after : List (Entry K D g h i)) (old now : Feed H) (result : Result ℕ NodeFeedError) (passed : Result (Option ℕ) CoreError) (answer : read_of result ≡ passed) (unsealed : is_open seen ≡ true) (begins : Begins seen log) (is : after ≡ new) where
      pub seat_whole : (is_open log ≡ true → IfOk passed (λ found. IfSome found (IsWholeFeed taken (items_at told fuse own faults quiet schedule new) now))) → IfOk result (IsWholeFeed taken (items_at told fuse own faults quiet schedule after) now)
      seat_whole whole =
          subst (λ (l : List (Entry K D g h i)). IfOk result (IsWholeFeed taken (items_at told fuse own faults quiet schedule l) now)) (sym is)
          (answer_whole taken (items_at told fuse own faults quiet schedule new) now result passed answer (whole (begins_on is_unsealed seen log unsealed begins)))

      pub seat_part : PassGoes old now passed → (is_open log ≡ true → old.spent ≡ false → OnErr passed (IsPartFeed taken (items_at told fuse own faults quiet schedule new) now))
          → old.spent ≡ false → OnErr result (IsPartFeed taken (items_at told fuse own faults quiet schedule after) now)
      seat_part goes part unspent =
          subst (λ (l : List (Entry K D g h i)). OnErr result (IsPartFeed taken (items_at told fuse own faults quiet schedule l) now)) (sym is)
          (answer_part taken (items_at told fuse own faults quiet schedule new) old now result passed answer (feed_goes old now result passed answer goes) (part (begins_on is_unsealed seen log unsealed begins)) unspent)

      pub seat_feed : (limit : Bounds) (shown : Shown) (first : List (Entry K D g h i)) → is_rooted_log first ≡ true → Begins first seen → Begins log new → IsTied limit shown (items_at told fuse own faults quiet schedule new)
          → IsFeedOf taken (items_at told fuse own faults quiet schedule first) old → PassGoes old now passed → (is_open log ≡ true → IfOk passed (λ found. IfSome found (IsWholeFeed taken (items_at told fuse own faults quiet schedule new) now)))
          → (is_open log ≡ true → old.spent ≡ false → OnErr passed (IsPartFeed taken (items_at told fuse own faults quiet schedule new) now)) → IsFeedOf taken (items_at told fuse own faults quiet schedule after) now
      seat_feed limit shown first rooted early extends tied was goes whole part =
          subst (λ (l : List (Entry K D g h i)). IsFeedOf taken (items_at told fuse own faults quiet schedule l) now) (sym is)
          (feed_after taken (items_at told fuse own faults quiet schedule first) (items_at told fuse own faults quiet schedule new) old now result (rooted_items told fuse own faults quiet schedule first rooted) tied.grown
          (begins_items told fuse own faults quiet schedule first new (begins_trans first seen new early (begins_trans seen log new begins extends))) was
          (answer_whole taken (items_at told fuse own faults quiet schedule new) now result passed answer (whole (begins_on is_unsealed seen log unsealed begins)))
          (answer_part taken (items_at told fuse own faults quiet schedule new) old now result passed answer (feed_goes old now result passed answer goes) (part (begins_on is_unsealed seen log unsealed begins)))
          (feed_goes old now result passed answer goes))
