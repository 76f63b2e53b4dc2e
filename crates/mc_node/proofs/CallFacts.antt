-- What a call of a replica means for the log.
use Rattle.std.proofs.Common.{◌≡◌, ℕ, Bool, true, false, ◌⊎◌, inl, inr, List, [], ◌∷◌, ◌++◌, map, take, length, Option, Some, None, Result, Ok, Err, refl, sym, ap, ◌∙◌, subst}
use Rattle.std.specs.Prelude.{⊤, IfSome, is_some}
use Rattle.std.specs.List.{list_all}
use Rattle.std.proofs.lemmas.Bool.{false≢true}
use Rattle.std.proofs.lemmas.List.{map-append}
use Rattle.std.proofs.Math.Seq.{take-append_seam}
use Rattle.mc_base.specs.Causes.{Rose}
use Rattle.mc_base.specs.Told.{Told}
use Rattle.mc_base.specs.declared.counted.Counted as counted
use Rattle.mc_model.specs.declared.block.Block.{Block}
use Rattle.mc_model.specs.Events.{Event, GoesOn}
use Rattle.mc_model.specs.Kept.{Kept, IsKept, block_in, blocks_in as all_in, is_stored}
use Rattle.mc_model.specs.State.{Durable, Running, blocks_of, durable_of, kept_of, stored_of}
use Rattle.mc_keep.specs.declared.fuse.Fuse.{Fuse}
use Rattle.mc_keep.specs.declared.keeper.Keeper as keeper
use Rattle.mc_keep.specs.Causes.{Kind, Refusal, Fault, Shortage, is_fault_kind}
use Rattle.mc_keep.specs.Plan.{Schedule}
use Rattle.mc_keep.proofs.Processed.{blocks_still}
use Rattle.mc_queue.specs.Views.{shown as shown_queue}
use Rattle.mc_core.specs.declared.CoreError.{CoreError}
use Rattle.mc_core.specs.declared.CoreError.TheVariants.{Stopped, Memory}
use Rattle.mc_core.specs.declared.replica.Replica.{Replica}
use Rattle.mc_core.specs.Calls.{Begins, Call, Faults, IsRefused, Stays}
use Rattle.mc_core.specs.Counted.{capped, run_of}
use Rattle.mc_core.specs.Events.{ReplicaState, Goes as Happens, Breaks, state_of, stopped_with}
use Rattle.mc_core.specs.Exact.{IfRefused, IfRefusedOrShort, RestSame, StillTellsAt, TellsSameAt, front_of, stop_front}
use Rattle.mc_core.specs.Hears.{unless_short}
use Rattle.mc_core.specs.Reads.{OnlyReads}
use Rattle.mc_core.specs.Refusals.{ByKind, is_fault, kind_of}
use Rattle.mc_core.specs.Replica.{replica_state}
use Rattle.mc_core.specs.Words.{ContinuesAt}
use Rattle.mc_core.proofs.GrowthFacts.{same_goes}
use Rattle.mc_node.specs.declared.entry.Entry.{Entry}
use Rattle.mc_node.specs.declared.note.Note.{Note}
use Rattle.mc_node.specs.declared.note.Note.TheVariants.{Halted, Root}
use Rattle.mc_node.specs.declared.node.Seen.{Seen}
use Rattle.mc_node.specs.Entries.{AddsEntry, IsRootLog, items_at, shown_at}
use Rattle.mc_node.specs.Items.{Item, Shown, is_halt, is_sealed, is_walk, root, state_in}
use Rattle.mc_node.specs.Moves.{Acts, Adds, BeginsNot, Does, KeepsRun, NoMore, Notes, SeenOver, note_by, note_of, seen_by, with_entry}
use Rattle.mc_node.specs.Ties.{Goes, IsTied, IsWithin, StoresFound}
use Rattle.mc_node.specs.Works.{Bounds}
use Rattle.mc_node.proofs.FrameFacts.{go_nowhere, of_calm, shown_goes}
use Rattle.mc_node.proofs.TieFacts.{BeginLaw, IsLonger, tied_noted, tied_root, tied_still}
use Rattle.mc_node.proofs.WorkFacts.{Step}
use Rattle.mc_node.proofs.WorkTies.{worked_on}

-- the laws of a replica that are used here
abbrev pub GoLaw : Type 0
GoLaw = (events : List Event) (s new : ReplicaState) → Happens events s new → GoesOn s.state.durable new.state.durable

abbrev pub BreakLaw : Type 0
BreakLaw = (events : List Event) (before now : ℕ) (s new : ReplicaState) → Breaks events (Rose before now) s new → GoesOn s.state.durable new.state.durable

abbrev pub BackLaw : Type 0
BackLaw = (kept : Kept) → kept_of (durable_of kept) ≡ kept

-- what goes on has the old blocks first
grown_blocks : (old new : Durable) → list_all (is_stored (kept_of old).graph) old.order ≡ true → GoesOn old new → take (length (blocks_of old)) (blocks_of new) ≡ blocks_of old
grown_blocks old new all g =
    let graph : (kept_of new).graph ≡ (kept_of old).graph ++ map stored_of g.stored = ap (map stored_of) g.graph ∙ map-append stored_of old.graph g.stored in
    let split : blocks_of new ≡ blocks_of old ++ all_in (kept_of new).graph g.processed =
    ap (all_in (kept_of new).graph) g.order
    ∙ map-append (block_in (kept_of new).graph) old.order g.processed
    ∙ ap (λ (bs : List Block). bs ++ all_in (kept_of new).graph g.processed) (ap (λ x. all_in x old.order) graph ∙ blocks_still (kept_of old).graph (map stored_of g.stored) old.order all) in
    ap (take (length (blocks_of old))) split ∙ take-append_seam (blocks_of old) (all_in (kept_of new).graph g.processed)

module _ {T : Type 0} (go : GoLaw) (break : BreakLaw) (back : BackLaw) (Refused : ReplicaState → Option CoreError → Type 0) (Plan : ReplicaState → List Event → T → Type 0) (Short : ReplicaState → ReplicaState → Type 0)
    (short_goes : (s new : ReplicaState) → Short s new → GoesOn s.state.durable new.state.durable) where
  grows_by : (kind : Kind) (error : CoreError) (before now : ℕ) (s new : ReplicaState) → ByKind (IsRefused (Refused s) error s new) (Faults (Plan s) (Rose before now) s new) (Short s new) kind → GoesOn s.state.durable new.state.durable
  grows_by Refusal error before now s new c = subst (λ (x : ReplicaState). GoesOn s.state.durable x.state.durable) (sym c.1) (same_goes s.state.durable)
  grows_by Fault error before now s new c = break c.events before now s new c.breaks
  grows_by Shortage error before now s new c = short_goes s new c

  call_grows : (result : Result T CoreError) (before now : ℕ) (s new : ReplicaState) → Call (Refused s) (Plan s) (Short s) (Rose before now) result s new → GoesOn s.state.durable new.state.durable
  call_grows (Ok value) before now s new c = go c.events s new c.goes
  call_grows (Err error) before now s new c = grows_by (kind_of error) error before now s new c

  call_longer : (result : Result T CoreError) (before now : ℕ) (told told' : Option Kept) (fuse fuse' : Option Fuse) (run run' : Option Running) → IfSome told IsKept
      → Told (state_of told fuse run) (state_of told' fuse' run') (λ s new. Call (Refused s) (Plan s) (Short s) (Rose before now) result s new)
      → Told (state_of told fuse run) (state_of told' fuse' run') (λ s new. take (length (blocks_of s.state.durable)) (blocks_of new.state.durable) ≡ blocks_of s.state.durable)
  call_longer result before now None told' fuse fuse' run run' sound c = tt
  call_longer result before now (Some kept) None fuse fuse' run run' sound c = absurd c
  call_longer result before now (Some kept) (Some kept') fuse fuse' run run' sound c =
      grown_blocks (durable_of kept) (durable_of kept') (subst (λ (k : Kept). list_all (is_stored k.graph) kept.order ≡ true) (sym (back kept)) sound.stored)
      (call_grows result before now _ _ c)

-- the same of any call that loses no block
pub longer_grown : (back : BackLaw) (told told' : Option Kept) (fuse fuse' : Option Fuse) (run run' : Option Running) → IfSome told IsKept
    → Told (state_of told fuse run) (state_of told' fuse' run') (λ s new. GoesOn s.state.durable new.state.durable)
    → Told (state_of told fuse run) (state_of told' fuse' run') (λ s new. take (length (blocks_of s.state.durable)) (blocks_of new.state.durable) ≡ blocks_of s.state.durable)
longer_grown back None told' fuse fuse' run run' sound c = tt
longer_grown back (Some kept) None fuse fuse' run run' sound c = absurd c
longer_grown back (Some kept) (Some kept') fuse fuse' run run' sound c =
    grown_blocks (durable_of kept) (durable_of kept') (subst (λ (k : Kept). list_all (is_stored k.graph) kept.order ≡ true) (sym (back kept)) sound.stored) c

-- what a call leaves where nothing is noted
pub record LeavesAlone (now later : Shown) : Type 0 where
  pub told : later.told ≡ now.told
  pub fuse : later.fuse ≡ now.fuse
  pub run : later.run ≡ now.run

module _ {K D : Type 0} {g : keeper.Ghosts K D} {h : counted.Ghosts K} {i : counted.Ghosts D} (told : K → Option Kept) (fuse : K → Option Fuse) (own faults : K → ℕ) (quiet : K → Bool) (schedule : K → Option Schedule) where
  pub adds_items : (note : Option Note) (replica : Replica K D g h i) (old mid new : List (Entry K D g h i)) → mid ≡ old → AddsEntry note replica mid new
      → Adds note (shown_at told fuse own faults quiet schedule replica) (items_at told fuse own faults quiet schedule old) (items_at told fuse own faults quiet schedule new)
  adds_items None replica old mid new m e = ap (items_at told fuse own faults quiet schedule) (e ∙ m)
  adds_items (Some note) replica old mid new m (about, is, e) =
      ap (items_at told fuse own faults quiet schedule) (e ∙ ap (λ (l : List (Entry K D g h i)). l ++ record { note = note; replica = about } ∷ []) m)
      ∙ map-append (λ (entry : Entry K D g h i). record { note = entry.note; shown = shown_at told fuse own faults quiet schedule entry.replica.value }) old (record { note = note; replica = about } ∷ [])
      ∙ ap (λ r. with_entry (items_at told fuse own faults quiet schedule old) note (shown_at told fuse own faults quiet schedule r)) is

  -- what the replica says of a call, of what it shows
  pub acts_of : {T : Type 0} (Refused : ReplicaState → Option CoreError → Type 0) (Plan : ReplicaState → List Event → T → Type 0) (Short More : ReplicaState → ReplicaState → Type 0) (result : Result T CoreError) (old new : Replica K D g h i)
      → Told (replica_state told fuse old) (replica_state told fuse new) (λ s after. Call (Refused s) (Plan s) (Short s) (Rose (own old.keeper) (own new.keeper)) result s after)
      → Told (replica_state told fuse old) (replica_state told fuse new) More → ContinuesAt told fuse own faults quiet schedule (is_fault result) old new → RestSame old new
      → Acts Refused Plan Short More result (shown_at told fuse own faults quiet schedule old) (shown_at told fuse own faults quiet schedule new)
  acts_of Refused Plan Short More result old new call more continues rest = record {
    call = call;
    more = more;
    goes = shown_goes told fuse own faults quiet schedule (is_fault result) old new continues;
    keeps = record { batch = rest.batch_same; walk = rest.walk_same; whole = rest.whole_same };
  }

  pub leaves_alone : (old new : Replica K D g h i) → StillTellsAt told fuse old new → shown_queue new.queue ≡ shown_queue old.queue → RestSame old new
      → LeavesAlone (shown_at told fuse own faults quiet schedule old) (shown_at told fuse own faults quiet schedule new)
  leaves_alone old new tells queue rest = record {
    told = tells.told_same;
    fuse = tells.fuse_same;
    run = λ i. record { queue = queue i; walk = rest.walk_same i; batch = rest.batch_same i; whole = rest.whole_same i };
  }

  pub leaves_same : (old new : Replica K D g h i) → TellsSameAt told fuse old new → RestSame old new → LeavesAlone (shown_at told fuse own faults quiet schedule old) (shown_at told fuse own faults quiet schedule new)
  leaves_same old new tells rest = leaves_alone old new (record { told_same = tells.told_same; fuse_same = tells.fuse_same }) (ap shown_queue tells.queue_same) rest

-- where no entry is noted for an answer
pub some_none : (note : Note) → Some note ≡ None → ⊥
some_none note e = false≢true (sym (ap is_some e))

-- of a call that notes its Ok alone
pub unnoted : {T : Type 0} (P : Type 0) (ok : Note) (result : Result T CoreError) → IfRefusedOrShort result P → note_of (Some ok) None result ≡ None → P
unnoted P ok (Ok value) refused none = absurd (some_none ok none)
unnoted P ok (Err error) refused none = by_kind (kind_of error) refused none
  where
    by_kind : (kind : Kind) → ByKind P ⊤ P kind → note_by kind None ≡ None → P
    by_kind Refusal p none = p
    by_kind Fault p none = absurd (some_none Halted none)
    by_kind Shortage p none = p

-- of one that notes a want of memory too
pub unnoted_refusal : {T : Type 0} (P : Type 0) (ok short : Note) (result : Result T CoreError) → IfRefused result P → note_of (Some ok) (Some short) result ≡ None → P
unnoted_refusal P ok short (Ok value) refused none = absurd (some_none ok none)
unnoted_refusal P ok short (Err error) refused none = by_kind (kind_of error) refused none
  where
    by_kind : (kind : Kind) → ByKind P ⊤ ⊤ kind → note_by kind (Some short) ≡ None → P
    by_kind Refusal p none = p
    by_kind Fault p none = absurd (some_none Halted none)
    by_kind Shortage p none = absurd (some_none short none)

-- an entry that an unsealed log may have besides a halt
abbrev pub MayNote : Option Note → List Item → Type 0
MayNote None log = ⊤
MayNote (Some note) log = (is_halt note ≡ false) × (is_walk note ≡ false) × (is_sealed log ≡ false)

-- the whole of the keeper's facts on a call that has ended
pub record Ended (limit : Bounds) (now later : Shown) (log : List Item) (failed : Bool) : Type 0 where
  pub tied : IsTied limit now log
  pub runs : now.stopped ≡ false
  pub goes : Goes failed now later
  pub keeps : KeepsRun now later
  pub longer : IsLonger now later
  pub leads : is_sealed log ≡ true → failed ≡ true → Told (state_in now) (state_in later) (Step limit true)

noted_well : (limit : Bounds) (now later : Shown) (log : List Item) (note : Note) → Ended limit now later log false → MayNote (Some note) log → IsTied limit later (with_entry log note later)
noted_well limit now later log note e may = tied_noted limit log note now later e.tied (record {
  runs = e.runs;
  goes = subst (λ b. Goes b now later) (sym may.0) e.goes;
  longer = e.longer;
  no_callers = λ c. may.2;
  may_walk = λ w. absurd (false≢true (sym may.1 ∙ w));
  batch = e.keeps.batch;
  walk = λ w. e.keeps.walk;
  whole = λ w. e.keeps.whole;
  worked = λ s. absurd (false≢true (sym may.2 ∙ s));
  drains = λ s up map is r st ri si. absurd (false≢true (sym may.2 ∙ s));
})

pub noted_halt : (limit : Bounds) (now later : Shown) (log : List Item) → Ended limit now later log true → IsTied limit later (with_entry log Halted later)
noted_halt limit now later log e = tied_noted limit log Halted now later e.tied (record {
  runs = e.runs;
  goes = e.goes;
  longer = e.longer;
  no_callers = λ c. absurd (false≢true c);
  may_walk = λ w. absurd (false≢true w);
  batch = e.keeps.batch;
  walk = λ w. e.keeps.walk;
  whole = λ w. e.keeps.whole;
  worked = λ s r st ri si. worked_on limit log now later true e.tied s e.runs e.goes.stops (e.leads s refl) r st ri si;
  drains = λ s up map is r st ri si. absurd (false≢true (sym up ∙ e.goes.stops));
})

still_well : (limit : Bounds) (now later : Shown) (log : List Item) → Ended limit now later log false → LeavesAlone now later → IsTied limit later log
still_well limit now later log e s = tied_still limit log now later e.runs e.tied (record { told = s.told; fuse = s.fuse; run = s.run; goes = e.goes })

noted_once : (limit : Bounds) (now later : Shown) (log log' : List Item) (note : Option Note) → Ended limit now later log false → MayNote note log → Adds note later log log'
    → (note ≡ None → LeavesAlone now later) → IsTied limit later log' × Adds note later log log'
noted_once limit now later log log' None e may adds alone = (subst (IsTied limit later) (sym adds) (still_well limit now later log e (alone refl)), adds)
noted_once limit now later log log' (Some note) e may adds alone = (subst (IsTied limit later) (sym adds) (noted_well limit now later log note e may), adds)

noted_by_kind : (limit : Bounds) (now later : Shown) (log log' : List Item) (short : Option Note) (kind : Kind) → Ended limit now later log (is_fault_kind kind) → MayNote short log → Adds (note_by kind short) later log log'
    → (note_by kind short ≡ None → LeavesAlone now later) → IsTied limit later log' × ByKind (Adds None later log log') (Adds (Some Halted) later log log') (Adds None later log log' ⊎ Adds short later log log') kind
noted_by_kind limit now later log log' short Refusal e may adds alone = noted_once limit now later log log' None e tt adds alone
noted_by_kind limit now later log log' short Fault e may adds alone = (subst (IsTied limit later) (sym adds) (noted_halt limit now later log e), adds)
noted_by_kind limit now later log log' short Shortage e may adds alone = let n = noted_once limit now later log log' short e may adds alone in (n.0, inr n.1)

pub noted_result : {T : Type 0} (limit : Bounds) (now later : Shown) (log log' : List Item) (ok short : Option Note) (result : Result T CoreError) → Ended limit now later log (is_fault result) → MayNote ok log → MayNote short log → Adds (note_of ok short result) later log log'
    → (note_of ok short result ≡ None → LeavesAlone now later) → IsTied limit later log' × Notes ok short result later log log'
noted_result limit now later log log' ok short (Ok value) e may_ok may_short adds alone = noted_once limit now later log log' ok e may_ok adds alone
noted_result limit now later log log' ok short (Err error) e may_ok may_short adds alone = noted_by_kind limit now later log log' short (kind_of error) e may_short adds alone

-- a call that has begun, to its end
pub does_end : {T : Type 0} (go : GoLaw) (break : BreakLaw) (back : BackLaw) (ok short : Option Note) (Refused : ReplicaState → Option CoreError → Type 0) (Plan : ReplicaState → List Event → T → Type 0) (Short : ReplicaState → ReplicaState → Type 0)
    (short_goes : (s new : ReplicaState) → Short s new → GoesOn s.state.durable new.state.durable) (More : ReplicaState → ReplicaState → Type 0) (front : Option CoreError) (limit : Bounds) (now later : Shown) (log log' : List Item) (result : Result T CoreError)
    → IsTied limit now log → now.stopped ≡ false → IfSome now.told IsKept → Acts Refused Plan Short More result now later
    → (is_sealed log ≡ true → is_fault result ≡ true → Told (state_in now) (state_in later) (Step limit true)) → front_of result ≡ stop_front now.stopped (unless_short result front)
    → MayNote ok log → MayNote short log → Adds (note_of ok short result) later log log' → (note_of ok short result ≡ None → LeavesAlone now later)
    → IsTied limit later log' × Does ok short Refused Plan Short More front result log log'
does_end {T} go break back ok short Refused Plan Short short_goes More front limit now later log log' result t runs sound acts leads fronts may_ok may_short adds alone =
    let ended : Ended limit now later log (is_fault result) = record {
      tied = t;
      runs = runs;
      goes = acts.goes;
      keeps = acts.keeps;
      longer = call_longer go break back Refused Plan Short short_goes result now.own later.own now.told later.told now.fuse later.fuse (run_of now.stopped now.run) (run_of later.stopped later.run) sound acts.call;
      leads = leads;
    } in
    let both = noted_result limit now later log log' ok short result ended may_ok may_short adds alone in (
      both.0,
      record {
        before = now;
        after = later;
        was = t.moment;
        is = both.0.moment;
        since = λ e. of_calm (root log) now (t.calm e);
        acts = acts;
        notes = both.1;
        fronts = fronts ∙ ap (λ b. stop_front b (unless_short result front)) t.halted;
        grows = t.grown;
      },
    )

-- a call that does not begin
module _ {T : Type 0} (ok short : Option Note) (Refused : ReplicaState → Option CoreError → Type 0) (Plan : ReplicaState → List Event → T → Type 0) (Short : ReplicaState → ReplicaState → Type 0)
    (stopped_due : (durable : Durable) (fuse : Option Fuse) → Refused (stopped_with durable fuse) (Some Stopped)) (short_stays : (s : ReplicaState) → Short s s) (More : ReplicaState → ReplicaState → Type 0) (more_stays : (s : ReplicaState) → More s s) (front : Option CoreError) where
  stays_stopped : (told : Option Kept) (fuse : Option Fuse) (own : ℕ) (run : Option Running) → run ≡ None → Told (state_of told fuse run) (state_of told fuse run) (λ s new. Call (Refused s) (Plan s) (Short s) (Rose own own) (Err Stopped) s new)
  stays_stopped None fuse own run e = tt
  stays_stopped (Some kept) fuse own run e =
      (subst (λ (r : Option Running). Refused (record { state = record { durable = durable_of kept; run = r }; fuse = fuse }) (Some Stopped)) (sym e) (stopped_due (durable_of kept) fuse), refl)

  stays_short : (told : Option Kept) (fuse : Option Fuse) (own : ℕ) (run : Option Running) → Told (state_of told fuse run) (state_of told fuse run) (λ s new. Call (Refused s) (Plan s) (Short s) (Rose own own) (Err Memory) s new)
  stays_short None fuse own run = tt
  stays_short (Some kept) fuse own run = short_stays (record { state = record { durable = durable_of kept; run = run }; fuse = fuse })

  more_itself : (told : Option Kept) (fuse : Option Fuse) (run : Option Running) → Told (state_of told fuse run) (state_of told fuse run) More
  more_itself None fuse run = tt
  more_itself (Some kept) fuse run = more_stays (record { state = record { durable = durable_of kept; run = run }; fuse = fuse })

  keeps_itself : (now : Shown) → KeepsRun now now
  keeps_itself now = record { batch = refl; walk = refl; whole = refl }

  does_nothing : (limit : Bounds) (now : Shown) (log : List Item) (b : Bool) (error : CoreError) → now.stopped ≡ b → IsTied limit now log → BeginsNot b error → Does ok short Refused Plan Short More front (Err error) log log
  does_nothing limit now log true error e t is = subst (λ x. Does ok short Refused Plan Short More front (Err x) log log) (sym is) (record {
    before = now;
    after = now;
    was = t.moment;
    is = t.moment;
    since = λ h. of_calm (root log) now (t.calm h);
    acts = record { call = stays_stopped now.told now.fuse now.own (run_of now.stopped now.run) (ap (λ x. run_of x now.run) e); more = more_itself now.told now.fuse (run_of now.stopped now.run); goes = go_nowhere now; keeps = keeps_itself now };
    notes = refl;
    fronts = ap (λ x. stop_front x front) (sym e ∙ t.halted);
    grows = t.grown;
  })
  does_nothing limit now log false error e t is = subst (λ x. Does ok short Refused Plan Short More front (Err x) log log) (sym is) (record {
    before = now;
    after = now;
    was = t.moment;
    is = t.moment;
    since = λ h. of_calm (root log) now (t.calm h);
    acts = record { call = stays_short now.told now.fuse now.own (run_of now.stopped now.run); more = more_itself now.told now.fuse (run_of now.stopped now.run); goes = go_nowhere now; keeps = keeps_itself now };
    notes = inl refl;
    fronts = ap (λ x. stop_front x None) (sym e ∙ t.halted);
    grows = t.grown;
  })

  pub does_not_begin : (limit : Bounds) (now : Shown) (log log' : List Item) (error : CoreError) → IsTied limit now log → BeginsNot now.stopped error → log' ≡ log → Does ok short Refused Plan Short More front (Err error) log log'
  does_not_begin limit now log log' error t is same = subst (λ (l : List Item). Does ok short Refused Plan Short More front (Err error) log l) (sym same) (does_nothing limit now log now.stopped error refl t is)

-- a refusal that is due is so unless memory is wanted
pub front_short : {T : Type 0} (result : Result T CoreError) (stop : Bool) (due : Option CoreError) → front_of result ≡ stop_front stop due → stop ≡ false → front_of result ≡ stop_front stop (unless_short result due)
front_short {T} (Ok value) stop due e runs = e
front_short {T} (Err error) stop due e runs = by_error error e
  where
    by_error : (error : CoreError) → front_of {T = T} (Err error) ≡ stop_front stop due → front_of {T = T} (Err error) ≡ stop_front stop (unless_short {T = T} (Err error) due)
    by_error Memory e = ap (λ b. stop_front b None) (sym runs)
    by_error error e = e

-- a want of memory that leaves all as it was
pub stays_goes : (s new : ReplicaState) → Stays s new → GoesOn s.state.durable new.state.durable
stays_goes s new e = subst (λ (x : ReplicaState). GoesOn s.state.durable x.state.durable) (sym e) (same_goes s.state.durable)

-- a read's answer with the length that it is over
module _ {A : Type 0} (Refused : ReplicaState → Option CoreError → Type 0) (P : Kept → A → Type 0) (n : ℕ) where
  seen_call : (result : Result A CoreError) (rose : Type 0) (told told' : Option Kept) (fuse fuse' : Option Fuse) (run run' : Option Running) → IfSome told (λ kept. n ≡ capped (length kept.order))
      → Told (state_of told fuse run) (state_of told' fuse' run') (λ s new. Call (Refused s) (OnlyReads P s) (Stays s) rose result s new)
      → Told (state_of told fuse run) (state_of told' fuse' run') (λ s new. Call (Refused s) (OnlyReads (SeenOver P) s) (Stays s) rose (seen_by n result) s new)
  seen_call result rose None told' fuse fuse' run run' is c = tt
  seen_call result rose (Some kept) None fuse fuse' run run' is c = absurd c
  seen_call (Ok answer) rose (Some kept) (Some kept') fuse fuse' run run' is c = record { allowed = c.allowed; events = c.events; makes = (c.makes.0, (c.makes.1, is)); goes = c.goes }
  seen_call (Err error) rose (Some kept) (Some kept') fuse fuse' run run' is c = by_kind (kind_of error) c
    where
      S : ReplicaState
      S = record { state = record { durable = durable_of kept; run = run }; fuse = fuse }

      N : ReplicaState
      N = record { state = record { durable = durable_of kept'; run = run' }; fuse = fuse' }

      by_kind : (kind : Kind) → ByKind (IsRefused (Refused S) error S N) (Faults (OnlyReads P S) rose S N) (Stays S N) kind → ByKind (IsRefused (Refused S) error S N) (Faults (OnlyReads (SeenOver P) S) rose S N) (Stays S N) kind
      by_kind Refusal c = c
      by_kind Fault c = record { events = c.events; begins = begun c.begins; breaks = c.breaks }
        where
          begun : (c.events ≡ []) ⊎ ((value : A) × OnlyReads P S c.events value) → Begins (OnlyReads (SeenOver P) S) c.events
          begun (inl e) = inl e
          begun (inr p) = inl p.1.0
      by_kind Shortage c = c

  pub seen_acts : (result : Result A CoreError) (now later : Shown) → IfSome now.told (λ kept. n ≡ capped (length kept.order)) → Acts Refused (OnlyReads P) Stays NoMore result now later → Acts Refused (OnlyReads (SeenOver P)) Stays NoMore (seen_by n result) now later
  seen_acts result now later is acts = record {
    call = seen_call result (Rose now.own later.own) now.told later.told now.fuse later.fuse (run_of now.stopped now.run) (run_of later.stopped later.run) is acts.call;
    more = acts.more;
    goes = subst (λ b. Goes b now later) (fault_same result) acts.goes;
    keeps = acts.keeps;
  }
    where
      fault_same : (result : Result A CoreError) → is_fault result ≡ is_fault (seen_by n result)
      fault_same (Ok answer) = refl
      fault_same (Err error) = refl

  pub seen_front : (result : Result A CoreError) (stop : Bool) → front_of result ≡ stop_front stop None → front_of (seen_by n result) ≡ stop_front stop (unless_short (seen_by n result) None)
  seen_front (Ok answer) stop e = e
  seen_front (Err error) stop e = e ∙ ap (stop_front stop) (none error)
    where
      none : (error : CoreError) → None ≡ unless_short {T = Seen A} (Err error) None
      none Memory = refl
      none error = refl

  pub seen_note : (result : Result A CoreError) (ok short : Option Note) → note_of ok short result ≡ note_of ok short (seen_by n result)
  seen_note (Ok answer) ok short = refl
  seen_note (Err error) ok short = refl

-- the log of one entry
abbrev item_of : Note → Shown → List Item
item_of note shown = record { note = note; shown = shown } ∷ []

-- a new log
module _ {K D : Type 0} {g : keeper.Ghosts K D} {h : counted.Ghosts K} {i : counted.Ghosts D} (told : K → Option Kept) (fuse : K → Option Fuse) (own faults : K → ℕ) (quiet : K → Bool) (schedule : K → Option Schedule) where
  pub root_tied : (law : BeginLaw) (limit : Bounds) (sealed : Bool) (replica : Replica K D g h i) (entry : Entry K D g h i) (old log : List (Entry K D g h i)) → entry.note ≡ Root sealed → entry.replica.value ≡ replica → old ≡ [] → log ≡ old ++ entry ∷ []
      → replica.stopped ≡ false → (sealed ≡ true → IsWithin limit.most (replica_state told fuse replica)) → (sealed ≡ true → StoresFound limit (replica_state told fuse replica))
      → IsTied limit (shown_at told fuse own faults quiet schedule replica) (items_at told fuse own faults quiet schedule log)
  root_tied law limit sealed replica entry old log note about empty more runs most found =
      subst (λ (l : List (Entry K D g h i)). IsTied limit (shown_at told fuse own faults quiet schedule replica) (items_at told fuse own faults quiet schedule l)) (sym (more ∙ ap (λ (l : List (Entry K D g h i)). l ++ entry ∷ []) empty))
      (subst (IsTied limit (shown_at told fuse own faults quiet schedule replica)) (sym root)
      (tied_root law limit sealed (shown_at told fuse own faults quiet schedule replica) runs most found))
    where
      root : items_at told fuse own faults quiet schedule (entry ∷ []) ≡ item_of (Root sealed) (shown_at told fuse own faults quiet schedule replica)
      root = λ j. record { note = note j; shown = shown_at told fuse own faults quiet schedule (about j) } ∷ []

pub root_log : {K D : Type 0} {g : keeper.Ghosts K D} {h : counted.Ghosts K} {i : counted.Ghosts D} (sealed : Bool) (replica : Replica K D g h i) (entry : Entry K D g h i) (old log : List (Entry K D g h i)) → entry.note ≡ Root sealed → entry.replica.value ≡ replica
    → old ≡ [] → log ≡ old ++ entry ∷ [] → IsRootLog sealed replica log
root_log {K} {D} {g} {h} {i} sealed replica entry old log note about empty more = record {
  about = entry.replica;
  is = about;
  alone = more ∙ ap (λ (l : List (Entry K D g h i)). l ++ entry ∷ []) empty ∙ (λ j. record { note = note j; replica = entry.replica } ∷ []);
}

-- an entry about a replica was added
pub entry_added : {K D : Type 0} {g : keeper.Ghosts K D} {h : counted.Ghosts K} {i : counted.Ghosts D} (note : Note) (entry : Entry K D g h i) (replica : Replica K D g h i) (old new : List (Entry K D g h i)) → entry.note ≡ note → entry.replica.value ≡ replica
    → new ≡ old ++ entry ∷ [] → AddsEntry (Some note) replica old new
entry_added note entry replica old new n about more = (entry.replica, about, more ∙ (λ j. old ++ record { note = n j; replica = entry.replica } ∷ []))
