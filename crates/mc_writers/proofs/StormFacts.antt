-- What a storm leaves of its replica.
use Rattle.std.proofs.Common.{◌≡◌, ◌+◌, ℕ, Bool, true, false, List, [], length, Option, Some, None, Result, Ok, Err, refl, sym, ap, ◌∙◌, subst, arith}
use Rattle.std.specs.Prelude.{is_some}
use Rattle.std.proofs.lemmas.Bool.{false≢true}
use Rattle.std.proofs.lemmas.List.{length-map}
use Rattle.mc_base.specs.Causes.{Rose}
use Rattle.mc_base.specs.Told.{Told}
use Rattle.mc_base.specs.declared.counted.Counted as counted
use Rattle.mc_turn.specs.declared.view.View.{View}
use Rattle.mc_turn.specs.Lists.{Begins}
use Rattle.mc_turn.specs.Views.{IsTaken, all_parts, first_view}
use Rattle.mc_turn.proofs.Lists.{begins_trans}
use Rattle.mc_model.specs.Kept.{Kept}
use Rattle.mc_keep.specs.Plan.{Schedule}
use Rattle.mc_keep.specs.declared.fuse.Fuse.{Fuse}
use Rattle.mc_keep.specs.declared.keeper.Keeper as keeper
use Rattle.mc_core.specs.Events.{ReplicaState}
use Rattle.mc_core.specs.Exact.{RunSame}
use Rattle.mc_core.specs.Replica.{replica_state}
use Rattle.mc_core.specs.Words.{ContinuesAt}
use Rattle.mc_core.specs.declared.replica.Replica.{Replica}
use Rattle.mc_node.specs.declared.entry.Entry.{Entry}
use Rattle.mc_storm.specs.declared.outcome.Stormed.{Stormed}
use Rattle.mc_storm.specs.declared.outcome.StormError.{StormError}
use Rattle.mc_storm.specs.declared.outcome.StormError.TheVariants as storm
use Rattle.mc_node.specs.Entries.{IsRootLog, items_at, shown_at}
use Rattle.mc_writers.specs.Gathers.{Joined}
use Rattle.mc_storm.specs.Interleavings.{StormCall, calls_of, share_of}
use Rattle.mc_node.specs.Items.{Item, Shown, has_halted, is_sealed, is_sealing, last, last_state, root, state_in}
use Rattle.mc_storm.specs.Storms.{StormBreaks, StormEnds, StormLeads, StormPauses, answer_of, storm_broke}
use Rattle.mc_node.specs.Ties.{Goes, IsTied}
use Rattle.mc_node.specs.Works.{Bounds}
use Rattle.mc_writers.specs.Tooks.{Took}
use Rattle.mc_writers.specs.Writers.{IsBad, IsGood, made_of, same_of}
use Rattle.mc_node.proofs.FrameFacts.{go_nowhere, goes_shown, of_broken, of_calm}
use Rattle.mc_writers.proofs.Spread.{each_more}
use Rattle.mc_writers.proofs.StormEnd.{none_bad, root_state, storm_broken, storm_ends, storm_pauses, told_as}
use Rattle.mc_writers.proofs.StormLaw.{Stormy}
use Rattle.mc_writers.proofs.StormSeats.{bad_longer, begins_items, first_longer, good_longer, root_longer}
use Rattle.mc_writers.proofs.StormTurns.{moment_state}
use Rattle.mc_writers.proofs.WriterFacts.{unmade, unmade_numbers}

-- nothing was called
pub told_itself : (a : Option ReplicaState) → Told a a (λ s new. new ≡ s)
told_itself None = tt
told_itself (Some s) = refl

pub pauses_none : (count writes : ℕ) (a : Option ReplicaState) → Told a a (StormPauses count writes)
pauses_none count writes a = told_as (λ s new. new ≡ s) (StormPauses count writes) (λ s new same. record {
  calls = [];
  interleaved = λ writer. record { writes = unmade 1 (share_of count writes writer); numbered = unmade_numbers 1 (share_of count writes writer); some_made = (calls_of writer (unmade 1 (share_of count writes writer)), refl) };
  run = same;
}) a a (told_itself a)

joined_longer : (count writes hi : ℕ) (done : Bool) (made same : ℕ) (mine : List ℕ) (Good Bad Good' Bad' : Took StormCall → Type 0) → ((t : Took StormCall) → Good t → Good' t) → ((t : Took StormCall) → Bad t → Bad' t)
    → Joined count writes hi done made same mine Good Bad → Joined count writes hi done made same mine Good' Bad'
joined_longer count writes hi done made same mine Good Bad Good' Bad' g b j = record {
  all = j.all;
  fails = j.fails;
  each = j.each;
  places_are = j.places_are;
  made_is = j.made_is;
  same_is = j.same_is;
  made_most = j.made_most;
  same_most = j.same_most;
  good = each_more Good Good' j.all g j.good;
  bad = each_more Bad Bad' j.fails b j.bad;
}

-- the frame of a storm, by whether the log says that the keeper failed
storm_goes : (limit : Bounds) (log : List Item) (now : Shown) → IsTied limit now log → (b : Bool) → has_halted log ≡ b → Goes b (root log) now
storm_goes limit log now t false h = of_calm (root log) now (t.calm h)
storm_goes limit log now t true h = of_broken (root log) now (t.broken h)

-- what it leads to, by that and by what the writes came to
storm_by : (log : List Item) (count writes hi : ℕ) (wrote : Option Stormed) (mine : List ℕ) (j : Joined count writes hi (is_some wrote) (made_of wrote) (same_of wrote) mine (IsGood log) (IsBad log)) → Stormy log j.all j.fails mine → (b : Bool) → has_halted log ≡ b
    → Told (state_in (root log)) (last_state log) (StormLeads count writes (answer_of b wrote) (Rose (root log).own (last log).own))
storm_by log count writes hi wrote mine j s true h =
    subst (λ (o : Option ReplicaState). Told o (last_state log) (StormBreaks count writes (Rose (root log).own (last log).own))) (root_state log s.rooted)
    (storm_broken log count writes hi (is_some wrote) (made_of wrote) (same_of wrote) mine j s h)
storm_by log count writes hi None mine j s false h =
    subst (λ (o : Option ReplicaState). Told o (last_state log) (StormPauses count writes)) (root_state log s.rooted)
    (storm_pauses log count writes hi false 0 0 mine j s (none_bad log count writes hi false 0 0 mine j s h))
storm_by log count writes hi (Some stormed) mine j s false h =
    subst (λ (o : Option ReplicaState). Told o (last_state log) (StormEnds count writes stormed)) (root_state log s.rooted)
    (storm_ends log count writes hi true stormed.made stormed.same mine j s refl (none_bad log count writes hi true stormed.made stormed.same mine j s h))

broke_is : (b : Bool) (wrote : Option Stormed) → storm_broke (answer_of b wrote) ≡ b
broke_is true wrote = refl
broke_is false None = refl
broke_is false (Some stormed) = refl

pub unstopped : (b : Bool) (wrote : Option Stormed) → answer_of b wrote ≡ Err storm.Stopped → ⊥
unstopped b wrote e = false≢true (sym (code_is b wrote) ∙ ap code e)
  where
    code : Result Stormed StormError → Bool
    code (Ok stormed) = false
    code (Err storm.Stopped) = true
    code (Err storm.KeeperFault) = false
    code (Err storm.Memory) = false

    code_is : (b : Bool) (wrote : Option Stormed) → code (answer_of b wrote) ≡ false
    code_is true wrote = refl
    code_is false None = refl
    code_is false (Some stormed) = refl

module _ {K D : Type 0} {g : keeper.Ghosts K D} {h : counted.Ghosts K} {i : counted.Ghosts D} (told : K → Option Kept) (fuse : K → Option Fuse) (own faults : K → ℕ) (quiet : K → Bool) (schedule : K → Option Schedule) where
  abbrev items : List (Entry K D g h i) → List Item
  items = items_at told fuse own faults quiet schedule

  abbrev shows : Replica K D g h i → Shown
  shows = shown_at told fuse own faults quiet schedule

  pub continues_itself : (replica : Replica K D g h i) → ContinuesAt told fuse own faults quiet schedule false replica replica
  continues_itself replica = goes_shown told fuse own faults quiet schedule false replica replica (go_nowhere (shown_at told fuse own faults quiet schedule replica))

  -- what is said of the replica that comes back
  pub record Leaves (count writes : ℕ) (result : Result Stormed StormError) (replica left : Replica K D g h i) : Type 0 where
    pub leads : Told (replica_state told fuse replica) (replica_state told fuse left) (StormLeads count writes result (Rose (own replica.keeper) (own left.keeper)))
    pub keeps : ContinuesAt told fuse own faults quiet schedule (storm_broke result) replica left
    pub rest : RunSame replica left
    pub unstopped : result ≡ Err storm.Stopped → ⊥

  pub storm_leaves : (limit : Bounds) (replica left : Replica K D g h i) (opening log : List (Entry K D g h i)) (view : View (Entry K D g h i)) (count writes : ℕ) (wrote : Option Stormed) (result : Result Stormed StormError)
      → limit.walks ≡ false → IsRootLog false replica opening → Begins opening view.seen → view.base ≡ length opening → view.parts ≡ all_parts → IsTaken view log
      → IsTied limit (shown_at told fuse own faults quiet schedule left) (items_at told fuse own faults quiet schedule log)
      → Joined count writes (length view.seen) (is_some wrote) (made_of wrote) (same_of wrote) view.mine (IsGood (items_at told fuse own faults quiet schedule view.seen)) (IsBad (items_at told fuse own faults quiet schedule view.seen))
      → result ≡ answer_of left.stopped wrote → Leaves count writes result replica left
  storm_leaves limit replica left opening log view count writes wrote result unwalked opened begins base parts taken tied joined is = record {
    leads = subst (λ (r : Result Stormed StormError). Told (replica_state told fuse replica) (replica_state told fuse left) (StormLeads count writes r (Rose (own replica.keeper) (own left.keeper)))) (sym is) told_leads;
    keeps = goes_shown told fuse own faults quiet schedule (storm_broke result) replica left
        (subst (λ (b : Bool). Goes b (shows replica) (shows left)) (sym (ap storm_broke is ∙ broke_is left.stopped wrote))
        (subst (λ (x : Shown). Goes left.stopped x (shows left)) root_is (storm_goes limit whole (shows left) tied left.stopped (sym tied.halted))));
    rest = record {
      walk_same = tied.walk (tied.unwalked unwalked) ∙ ap (λ x. x.run.walk) root_is;
      batch_same = tied.batch ∙ ap (λ x. x.run.batch) root_is;
      whole_same = tied.whole (tied.unwalked unwalked) ∙ ap (λ x. x.run.whole) root_is;
    };
    unstopped = λ e. unstopped left.stopped wrote (sym is ∙ e);
  }
    where
      entry_item : Entry K D g h i → Item
      entry_item entry = record { note = entry.note; shown = shown_at told fuse own faults quiet schedule entry.replica.value }

      whole : List Item
      whole = items_at told fuse own faults quiet schedule log

      seen_begins : Begins (items_at told fuse own faults quiet schedule view.seen) whole
      seen_begins = begins_items entry_item view.seen log taken.seen

      root_is : root whole ≡ shows replica
      root_is =
          root_longer (items_at told fuse own faults quiet schedule opening) whole (begins_items entry_item opening log (begins_trans opening view.seen log begins taken.seen)) (let e = length-map opening entry_item in let f = ap length opened.alone in omega (arith, e, f))
          ∙ ap (λ (l : List (Entry K D g h i)). root (items_at told fuse own faults quiet schedule l)) opened.alone ∙ ap (shown_at told fuse own faults quiet schedule) opened.is

      unsealed : is_sealed whole ≡ false
      unsealed =
          first_longer is_sealing (items_at told fuse own faults quiet schedule opening) whole (begins_items entry_item opening log (begins_trans opening view.seen log begins taken.seen)) (let e = length-map opening entry_item in let f = ap length opened.alone in omega (arith, e, f))
          ∙ ap (λ (l : List (Entry K D g h i)). is_sealed (items_at told fuse own faults quiet schedule l)) opened.alone

      longer : Joined count writes (length view.seen) (is_some wrote) (made_of wrote) (same_of wrote) view.mine (IsGood whole) (IsBad whole)
      longer = joined_longer count writes (length view.seen) (is_some wrote) (made_of wrote) (same_of wrote) view.mine _ _ (IsGood whole) (IsBad whole) (good_longer _ whole seen_begins) (bad_longer _ whole seen_begins) joined

      stormy : Stormy whole longer.all longer.fails view.mine
      stormy = record {
        rooted = tied.rooted;
        unsealed = unsealed;
        whole = λ p one lt. let n = length-map log entry_item in let o = ap length opened.alone in taken.known.whole parts p (omega (arith, base, o, one)) (omega (arith, n, lt));
        beyond = λ p le. let n = length-map log entry_item in taken.known.below p (omega (arith, n, le));
        places_are = longer.places_are;
        good = longer.good;
        bad = longer.bad;
      }

      last_is : last_state whole ≡ state_in (shows left)
      last_is = sym (moment_state whole (shows left) tied.moment unsealed)

      told_leads : Told (replica_state told fuse replica) (replica_state told fuse left) (StormLeads count writes (answer_of left.stopped wrote) (Rose (own replica.keeper) (own left.keeper)))
      told_leads =
          subst (λ (n : ℕ). Told (replica_state told fuse replica) (replica_state told fuse left) (StormLeads count writes (answer_of left.stopped wrote) (Rose (own replica.keeper) n))) (sym tied.moment.own)
          (subst (λ (o : Option ReplicaState). Told (replica_state told fuse replica) o (StormLeads count writes (answer_of left.stopped wrote) (Rose (own replica.keeper) (last whole).own))) last_is
          (subst (λ (x : Shown). Told (state_in x) (last_state whole) (StormLeads count writes (answer_of left.stopped wrote) (Rose x.own (last whole).own))) root_is
          (storm_by whole count writes (length view.seen) wrote view.mine longer stormy left.stopped (sym tied.halted))))

  -- a storm that doesn't begin leaves the replica
  pub storm_stays : (count writes : ℕ) (replica left : Replica K D g h i) → left ≡ replica → Leaves count writes (Err storm.Memory) replica left
  storm_stays count writes replica left same = subst (Leaves count writes (Err storm.Memory) replica) (sym same) (record {
    leads = pauses_none count writes (replica_state told fuse replica);
    keeps = continues_itself replica;
    rest = record { walk_same = refl; batch_same = refl; whole_same = refl };
    unstopped = λ e. unstopped false None e;
  })

  -- the same, from what each step of it says
  pub storm_gathered : (limit : Bounds) (replica left back : Replica K D g h i) (opening log : List (Entry K D g h i)) (first hired gathered : View (Entry K D g h i)) (count size writes shares left_shares : ℕ) (wrote : Option Stormed) (result : Result Stormed StormError)
      → limit.walks ≡ false → IsRootLog false replica opening → first ≡ first_view opening
      → hired.seen ≡ first.seen → hired.base ≡ first.base → hired.parts + shares ≡ first.parts
      → Begins hired.seen gathered.seen → gathered.base ≡ hired.base → gathered.parts ≡ hired.parts + left_shares → left_shares ≡ shares → IsTaken gathered log
      → IsTied limit (shown_at told fuse own faults quiet schedule left) (items_at told fuse own faults quiet schedule log) → size ≡ count
      → Joined size writes (length gathered.seen) (is_some wrote) (made_of wrote) (same_of wrote) gathered.mine (IsGood (items_at told fuse own faults quiet schedule gathered.seen)) (IsBad (items_at told fuse own faults quiet schedule gathered.seen))
      → back ≡ left → result ≡ answer_of left.stopped wrote → Leaves count writes result replica back
  storm_gathered limit replica left back opening log first hired gathered count size writes shares left_shares wrote result unwalked opened is seen base parts begins base' parts' same taken tied sized joined given answer =
      subst (Leaves count writes result replica) (sym given)
      (storm_leaves limit replica left opening log gathered count writes wrote result unwalked opened
      (subst (λ (l : List (Entry K D g h i)). Begins l gathered.seen) (seen ∙ ap (λ v. v.seen) is) begins)
      (base' ∙ base ∙ ap (λ v. v.base) is)
      (let a : first.parts ≡ all_parts = ap (λ v. v.parts) is in parts' ∙ ap (λ n. hired.parts + n) same ∙ parts ∙ a)
      taken tied
      (subst (λ (n : ℕ). Joined n writes (length gathered.seen) (is_some wrote) (made_of wrote) (same_of wrote) gathered.mine (IsGood (items_at told fuse own faults quiet schedule gathered.seen)) (IsBad (items_at told fuse own faults quiet schedule gathered.seen))) sized joined)
      answer)
