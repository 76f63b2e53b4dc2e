-- A worker's call as one of the replica between two moments of the log.
use Rattle.std.proofs.Common.{◌≡◌, ◌<◌, ℕ, Bool, true, false, not, cond, inr, List, [], ◌∷◌, length, Option, Some, None, Result, Ok, Err, refl, sym, ap, ◌∙◌, subst}
use Rattle.std.specs.Prelude.{⊤, IfErr, IfOk, IfSome}
use Rattle.std.proofs.lemmas.Bool.{false≢true}
use Rattle.mc_base.specs.Causes.{Rose}
use Rattle.mc_base.specs.Told.{Told}
use Rattle.mc_base.specs.declared.cid.Cid.{Cid}
use Rattle.mc_base.specs.declared.counted.Counted as counted
use Rattle.mc_fetch.specs.declared.job.Delivered.{Delivered}
use Rattle.mc_fetch.specs.declared.job.Job.{Job}
use Rattle.mc_keep.specs.declared.fuse.Fuse.{Fuse}
use Rattle.mc_keep.specs.declared.keeper.Keeper as keeper
use Rattle.mc_keep.specs.Plan.{Schedule}
use Rattle.mc_model.specs.Events.{Event, GiveBack}
use Rattle.mc_model.specs.Draining.{queue_in}
use Rattle.mc_model.specs.Graph.{has}
use Rattle.mc_model.specs.Kept.{Kept}
use Rattle.mc_model.specs.State.{Running}
use Rattle.mc_model.specs.Wanted.{Queue, give_back}
use Rattle.mc_queue.specs.Views.{shown as shown_queue}
use Rattle.mc_core.specs.Counted.{capped, run_of}
use Rattle.mc_core.specs.Events.{Goes as Happens, HappensIn, ReplicaState, state_of}
use Rattle.mc_core.specs.Exact.{RunSame}
use Rattle.mc_core.specs.Jobs.{DeliverShort, WantsAfter, is_known, tried_first}
use Rattle.mc_core.specs.Replica.{replica_state}
use Rattle.mc_core.specs.Words.{ContinuesAt}
use Rattle.mc_core.specs.declared.replica.Replica.{Replica}
use Rattle.mc_core.proofs.Keeps.{still_on}
use Rattle.mc_drain.specs.declared.end.DrainEnd.{DrainEnd}
use Rattle.mc_drain.specs.declared.end.DrainEnd.TheVariants as drain
use Rattle.mc_drain.specs.JobCalls.{GivesBack, JobCall, back_events}
use Rattle.mc_drain.specs.Words.{Begins, IsBroken, begin_failed}
use Rattle.mc_worker.specs.declared.ends.ShopError.{ShopError}
use Rattle.mc_node.specs.declared.entry.Entry.{Entry}
use Rattle.mc_node.specs.declared.note.Note.{Note}
use Rattle.mc_node.specs.Entries.{AddsEntry, items_at, shown_at}
use Rattle.mc_node.specs.Items.{Item, Shown, root}
use Rattle.mc_node.specs.Jobs.{note_if, shop_answer}
use Rattle.mc_node.specs.Serves.{AnswersAt, BackWants, DeliverWants, NextWants, ServesAt, WorkerCall, backed, keeper_fails}
use Rattle.mc_node.specs.Ties.{IsTied}
use Rattle.mc_node.specs.Works.{Bounds}
use Rattle.mc_node.proofs.CallFacts.{adds_items}
use Rattle.mc_node.proofs.FrameFacts.{of_calm, shown_goes}
use Rattle.mc_node.proofs.JobFacts.{answer_below, answer_runs}

-- an answer, and that of the replica below it

pub call_by : {T : Type 0} (Events : ReplicaState → List Event → T → Type 0) (Spends Short Left : ReplicaState → ReplicaState → Type 0) → ((s new : ReplicaState) → Short s new → Left s new) → (rose : Type 0) (result : Result T DrainEnd) (a b : Option ReplicaState)
    → Told a b (JobCall Events Short rose result) → Told a b (WorkerCall Events Spends Left (shop_answer result) rose)
call_by Events Spends Short Left weaker rose result None b t = tt
call_by Events Spends Short Left weaker rose result (Some s) None t = absurd t
call_by {T} Events Spends Short Left weaker rose result (Some s) (Some new) t = over result t
  where
    ended : (end : DrainEnd) → JobCall {T = T} Events Short rose (Err end) s new → WorkerCall {T = T} Events Spends Left (shop_answer (Err end)) rose s new
    ended drain.KeeperFault c = c
    ended drain.Memory c = weaker s new c
    ended drain.Idle c = absurd c
    ended drain.Spent c = absurd c
    ended drain.PeerFault c = absurd c

    over : (result : Result T DrainEnd) → JobCall Events Short rose result s new → WorkerCall Events Spends Left (shop_answer result) rose s new
    over (Ok value) c = c
    over (Err end) c = ended end c

pub fails_alike : {T : Type 0} (result : Result T DrainEnd) → begin_failed result ≡ keeper_fails (shop_answer result)
fails_alike (Ok value) = refl
fails_alike {T} (Err end) = ended end
  where
    ended : (end : DrainEnd) → begin_failed {T = T} (Err end) ≡ keeper_fails (shop_answer {T = T} (Err end))
    ended drain.KeeperFault = refl
    ended drain.Memory = refl
    ended drain.Idle = refl
    ended drain.Spent = refl
    ended drain.PeerFault = refl

pub next_wants : (result : Result (Option Job) DrainEnd) (stopped : Bool) (q left : Queue) → IfOk result (Begins q left) → IfErr result IsBroken → IfErr result (λ end. end ≡ drain.Memory → left ≡ tried_first q q.waiting) → NextWants (shop_answer result) stopped q left
next_wants (Ok job) stopped q left begins broken short = begins
next_wants (Err end) stopped q left begins broken short = ended end broken short
  where
    ended : (end : DrainEnd) → IsBroken end → (end ≡ drain.Memory → left ≡ tried_first q q.waiting) → NextWants (shop_answer (Err end)) stopped q left
    ended drain.KeeperFault broken short = tt
    ended drain.Memory broken short = inr (short refl)
    ended drain.Idle broken short = absurd broken
    ended drain.Spent broken short = absurd broken
    ended drain.PeerFault broken short = absurd broken

pub deliver_wants : (cid : Cid) (result : Result Delivered DrainEnd) (stopped : Bool) (q left : Queue) → IfOk result (λ delivered. WantsAfter delivered q left cid) → IfOk result (λ delivered. is_known delivered ≡ not (has cid q.flight)) → IfErr result IsBroken → IfErr result (λ end. end ≡ drain.Memory → left ≡ give_back q cid)
    → DeliverWants cid (shop_answer result) stopped q left
deliver_wants cid (Ok delivered) stopped q left wants known broken short = (wants, known)
deliver_wants cid (Err end) stopped q left wants known broken short = ended end broken short
  where
    ended : (end : DrainEnd) → IsBroken end → (end ≡ drain.Memory → left ≡ give_back q cid) → DeliverWants cid (shop_answer (Err end)) stopped q left
    ended drain.KeeperFault broken short = tt
    ended drain.Memory broken short = inr (short refl)
    ended drain.Idle broken short = absurd broken
    ended drain.Spent broken short = absurd broken
    ended drain.PeerFault broken short = absurd broken

-- what was given back for want of memory was in flight
pub short_back : (cid : Cid) (s new : ReplicaState) → DeliverShort s cid new → GivesBack cid s new
short_back cid s new short = over s.state.run refl
  where
    over : (run : Option Running) → s.state.run ≡ run → HappensIn run (back_events cid) s new
    over None e = absurd (false≢true (ap (λ r. has cid (queue_in r).flight) (sym e) ∙ short.0))
    over (Some run) e = subst (λ (b : Bool). Happens (cond b (GiveBack cid ∷ []) []) s new) (sym (ap (λ r. has cid (queue_in r).flight) (sym e) ∙ short.0)) short.1

pub back_wants : (cid : Cid) (stopped : Bool) (q left : Queue) → (stopped ≡ true → left ≡ q) → (stopped ≡ false → left ≡ backed cid q) → BackWants cid stopped q left
back_wants cid true q left still back = still refl
back_wants cid false q left still back = back refl

pub back_runs : (cid : Cid) (stopped : Bool) (q left : Queue) → stopped ≡ false → BackWants cid stopped q left → left ≡ backed cid q
back_runs cid true q left up wants = absurd (false≢true (sym up))
back_runs cid false q left up wants = wants

-- a replica that has stopped gets nothing back
pub stopped_back : (cid : Cid) (kept : Option Kept) (fuse : Option Fuse) (stop : Bool) (run : Running) → stop ≡ true → Told (state_of kept fuse (run_of stop run)) (state_of kept fuse (run_of stop run)) (GivesBack cid)
stopped_back cid kept fuse stop run e = subst (λ (b : Bool). Told (state_of kept fuse (run_of b run)) (state_of kept fuse (run_of b run)) (GivesBack cid)) (sym e) (at kept)
  where
    at : (kept : Option Kept) → Told (state_of kept fuse (run_of true run)) (state_of kept fuse (run_of true run)) (GivesBack cid)
    at None = tt
    at (Some kept) = refl

-- nothing was done
pub told_itself : (P : ReplicaState → ReplicaState → Type 0) → ((s : ReplicaState) → P s s) → (a : Option ReplicaState) → Told a a P
told_itself P each None = tt
told_itself P each (Some s) = each s

pub said_of_none : {A : Type 0} (told : Option A) → IfSome told (λ x. ⊤)
said_of_none None = tt
said_of_none (Some x) = tt

-- whether a block was processed, said in another way
pub noted_as : (failed : Bool) (At : Shown → Type 0) (Call : Type 0 → ReplicaState → ReplicaState → Type 0) (Wants : Bool → Queue → Queue → Type 0) (old : List Item) (before : Shown) (new : List Item) (after : Shown) (fetched noted : Bool) → fetched ≡ noted
    → ServesAt failed fetched At Call Wants old before new after → ServesAt failed noted At Call Wants old before new after
noted_as failed At Call Wants old before new after fetched noted same serves = subst (λ (b : Bool). ServesAt failed b At Call Wants old before new after) same serves

module _ {K D : Type 0} {g : keeper.Ghosts K D} {h : counted.Ghosts K} {i : counted.Ghosts D} (told : K → Option Kept) (fuse : K → Option Fuse) (own faults : K → ℕ) (quiet : K → Bool) (schedule : K → Option Schedule) where
  -- a call between what is shown before it and after it
  pub serves_by : (At : Shown → Type 0) (Call : Type 0 → ReplicaState → ReplicaState → Type 0) (Wants : Bool → Queue → Queue → Type 0) (limit : Bounds) (failed fetched : Bool) (old new : Replica K D g h i) (first log log' : List (Entry K D g h i))
      → IsTied limit (shown_at told fuse own faults quiet schedule old) (items_at told fuse own faults quiet schedule log) → log ≡ first → IsTied limit (shown_at told fuse own faults quiet schedule new) (items_at told fuse own faults quiet schedule log')
      → At (shown_at told fuse own faults quiet schedule old) → Told (replica_state told fuse old) (replica_state told fuse new) (Call (Rose (own old.keeper) (own new.keeper))) → ContinuesAt told fuse own faults quiet schedule failed old new → RunSame old new
      → Wants old.stopped (shown_queue old.queue) (shown_queue new.queue) → AddsEntry (note_if failed fetched) new log log' → ServesAt failed fetched At Call Wants (items_at told fuse own faults quiet schedule first) (shown_at told fuse own faults quiet schedule old) (items_at told fuse own faults quiet schedule log') (shown_at told fuse own faults quiet schedule new)
  serves_by At Call Wants limit failed fetched old new first log log' t is later at call continues rest wants adds =
      subst (λ (l : List (Entry K D g h i)). ServesAt failed fetched At Call Wants (items_at told fuse own faults quiet schedule l) (shown_at told fuse own faults quiet schedule old) (items_at told fuse own faults quiet schedule log') (shown_at told fuse own faults quiet schedule new)) is (record {
        was = t.moment;
        is = later.moment;
        since = λ e. of_calm (root (items_at told fuse own faults quiet schedule log)) (shown_at told fuse own faults quiet schedule old) (t.calm e);
        halted = t.halted;
        at = at;
        call = call;
        goes = shown_goes told fuse own faults quiet schedule failed old new continues;
        keeps = record { batch = rest.batch_same; walk = rest.walk_same; whole = rest.whole_same };
        wants = wants;
        notes = adds_items told fuse own faults quiet schedule (note_if failed fetched) new log log log' refl adds;
        grows = t.grown;
      })

  -- one that did nothing
  pub serves_nothing : (At : Shown → Type 0) (Call : Type 0 → ReplicaState → ReplicaState → Type 0) (Wants : Bool → Queue → Queue → Type 0) (limit : Bounds) (now : Replica K D g h i) (first log : List (Entry K D g h i))
      → IsTied limit (shown_at told fuse own faults quiet schedule now) (items_at told fuse own faults quiet schedule log) → log ≡ first → At (shown_at told fuse own faults quiet schedule now) → ((s : ReplicaState) → Call (Rose (own now.keeper) (own now.keeper)) s s)
      → ((q : Queue) → Wants now.stopped q q) → ServesAt false false At Call Wants (items_at told fuse own faults quiet schedule first) (shown_at told fuse own faults quiet schedule now) (items_at told fuse own faults quiet schedule log) (shown_at told fuse own faults quiet schedule now)
  serves_nothing At Call Wants limit now first log t is at call wants =
      serves_by At Call Wants limit false false now now first log log t is t at (told_itself (Call (Rose (own now.keeper) (own now.keeper))) call (replica_state told fuse now)) (still_on refl refl refl)
      (record { walk_same = refl; batch_same = refl; whole_same = refl }) (wants (shown_queue now.queue)) refl

  -- one that the replica was called in
  pub job_serves : {T : Type 0} (Events : ReplicaState → List Event → T → Type 0) (Spends Short Left : ReplicaState → ReplicaState → Type 0) → ((s new : ReplicaState) → Short s new → Left s new) → (Wants : Result T ShopError → Bool → Queue → Queue → Type 0) (limit : Bounds) (cap n : ℕ) (old new : Replica K D g h i)
      (first log log' : List (Entry K D g h i)) (entry : Option Note) (fetched : Bool) (result : Result T DrainEnd) (answer : Result T ShopError) → answer ≡ shop_answer result
      → IsTied limit (shown_at told fuse own faults quiet schedule old) (items_at told fuse own faults quiet schedule log) → log ≡ first → IsTied limit (shown_at told fuse own faults quiet schedule new) (items_at told fuse own faults quiet schedule log')
      → old.stopped ≡ false → n < cap → IfSome (told old.keeper) (λ kept. n ≡ capped (length kept.order)) → Told (replica_state told fuse old) (replica_state told fuse new) (JobCall Events Short (Rose (own old.keeper) (own new.keeper)) result)
      → ContinuesAt told fuse own faults quiet schedule (begin_failed result) old new → RunSame old new → Wants (shop_answer result) old.stopped (shown_queue old.queue) (shown_queue new.queue) → entry ≡ note_if (begin_failed result) fetched → AddsEntry entry new log log'
      → ServesAt (keeper_fails answer) fetched (AnswersAt cap answer) (WorkerCall Events Spends Left answer) (Wants answer) (items_at told fuse own faults quiet schedule first) (shown_at told fuse own faults quiet schedule old) (items_at told fuse own faults quiet schedule log') (shown_at told fuse own faults quiet schedule new)
  job_serves {T} Events Spends Short Left weaker Wants limit cap n old new first log log' entry fetched result answer is t same later runs less count call continues rest wants noted adds =
      subst (λ (a : Result T ShopError). ServesAt (keeper_fails a) fetched (AnswersAt cap a) (WorkerCall Events Spends Left a) (Wants a) (items_at told fuse own faults quiet schedule first) (shown_at told fuse own faults quiet schedule old) (items_at told fuse own faults quiet schedule log') (shown_at told fuse own faults quiet schedule new)) (sym is)
      (subst (λ (b : Bool). ServesAt b fetched (AnswersAt cap (shop_answer result)) (WorkerCall Events Spends Left (shop_answer result)) (Wants (shop_answer result)) (items_at told fuse own faults quiet schedule first) (shown_at told fuse own faults quiet schedule old) (items_at told fuse own faults quiet schedule log') (shown_at told fuse own faults quiet schedule new)) (fails_alike result)
      (serves_by (AnswersAt cap (shop_answer result)) (WorkerCall Events Spends Left (shop_answer result)) (Wants (shop_answer result)) limit (begin_failed result) fetched old new first log log' t same later
      (record { stopped = answer_runs old.stopped result (shop_answer result) refl runs; spent = answer_below (told old.keeper) cap n result (shop_answer result) refl less count })
      (call_by Events Spends Short Left weaker (Rose (own old.keeper) (own new.keeper)) result (replica_state told fuse old) (replica_state told fuse new) call) continues rest wants
      (subst (λ (e : Option Note). AddsEntry e new log log') noted adds)))

  -- a call from a replica that is the first one
  pub at_first : (P : List Item → Shown → List Item → Shown → Type 0) (old first : Replica K D g h i) (log log' : List Item) (after : Shown) → old ≡ first → P log (shown_at told fuse own faults quiet schedule old) log' after → P log (shown_at told fuse own faults quiet schedule first) log' after
  at_first P old first log log' after is p = subst (λ (r : Replica K D g h i). P log (shown_at told fuse own faults quiet schedule r) log' after) is p
