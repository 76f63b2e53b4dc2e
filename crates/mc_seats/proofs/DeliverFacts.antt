-- How a job of a replica ends, from where it began.
use Rattle.std.proofs.Common.{◌≡◌, ◌≢◌, ℕ, Bool, true, false, cond, ◌||◌, List, [], ◌∷◌, ◌++◌, Option, Some, None, Result, Ok, Err, refl, sym, ap, ◌∙◌, subst, inl, inr}
use Rattle.std.specs.Prelude.{IfSome, is_some, unwrap_or, ◌⊎◌}
use Rattle.std.proofs.lemmas.Bool.{or_right}
use Rattle.mc_base.specs.Causes.{Rose}
use Rattle.mc_base.specs.Told.{Told}
use Rattle.mc_base.specs.declared.cid.Cid.{Cid}
use Rattle.mc_base.specs.declared.counted.Counted as counted
use Rattle.mc_core.specs.Calls.{Call, Faults}
use Rattle.mc_core.specs.Counted.{run_of}
use Rattle.mc_core.specs.Events.{ReplicaState, state_of, all_happen, Goes, HappensIn, IsCutShort, stopped}
use Rattle.mc_core.specs.Exact.{DecidesAlone, RestSame, seen_of, stop_front}
use Rattle.mc_core.specs.Jobs.{DeliverEvents, DeliverShort, DeliversIn, IsDelivered, first_waiting, tried_first}
use Rattle.mc_core.specs.Reads.{read_refusal}
use Rattle.mc_core.specs.Refusals.{Is, kind_of}
use Rattle.mc_core.specs.Replica.{running_of}
use Rattle.mc_core.specs.Words.{Acts, Continues, HappensTo}
use Rattle.mc_core.specs.declared.CoreError.{CoreError}
use Rattle.mc_core.specs.declared.CoreError.TheVariants as core
use Rattle.mc_core.specs.declared.replica.Replica.{Replica}
use Rattle.mc_core.proofs.CallFacts.{at, nothing_done}
use Rattle.mc_core.proofs.EventFacts.{breaks_after, goes_then}
use Rattle.mc_core.proofs.JobFacts.{want_goes}
use Rattle.mc_fetch.specs.declared.job.Delivered.{Delivered}
use Rattle.mc_fetch.specs.declared.job.Delivered.TheVariants as delivered
use Rattle.mc_fetch.specs.declared.plants.Planted.{Planted}
use Rattle.mc_keep.specs.Calls.{Members}
use Rattle.mc_keep.specs.Causes.{has_fired, is_fault_kind}
use Rattle.mc_keep.specs.declared.fuse.Fuse.{Fuse}
use Rattle.mc_keep.specs.declared.keeper.Keeper as keeper
use Rattle.mc_model.specs.Events.{Event, Want, GiveBack}
use Rattle.mc_model.specs.Graph.{has}
use Rattle.mc_model.specs.Kept.{Kept}
use Rattle.mc_model.specs.State.{Durable, Running, durable_of, kept_of}
use Rattle.mc_model.specs.Wanted.{Queue, give_back, start_first}
use Rattle.mc_model.proofs.Counts.{cid_itself, has-append}
use Rattle.mc_script.specs.declared.command.Command.TheVariants.{Step}
use Rattle.mc_script.specs.declared.reply.Reply.{Reply}
use Rattle.mc_script.specs.declared.reply.Reply.TheVariants as reply
use Rattle.mc_seats.specs.declared.error.ActError.{ActError}
use Rattle.mc_seats.specs.Fetching.{IsFound, IsStepReply, StepEvents, StepsWith}
use Rattle.mc_seats.specs.Effects.{IsIdle, answer_of, Leaves, RunOn, SameBatch}
use Rattle.mc_seats.specs.Step.{ShortAt, StillRuns, answers_fault}
use Rattle.mc_seats.specs.StepParts.{BacksAt, Begun, DeliversAt, IsFlying, IsFoundAt, up}
use Rattle.mc_seats.specs.Words.{KeeperGoes}
use Rattle.mc_seats.specs.Worlds.{IfRuns, Place, WorldState, is_down, peers_of, state_at}
use Rattle.mc_seats.proofs.BeginFacts.{allowed_at, is_no_error, never, short_is_not_bad, waits}
use Rattle.mc_seats.proofs.CallFacts.{no_other}
use Rattle.mc_seats.proofs.GoesFacts.{keeper_goes}

-- a replica whose place runs

run_is : (stop : Bool) (x y : Running) → run_of stop x ≡ Some y → (stop ≡ false) × (x ≡ y)
run_is true x y e = never (sym (ap is_some e))
run_is false x y e = (refl, ap (λ o. unwrap_or o x) e)

pub flies : (cid : Cid) (stop : Bool) (run : Running) → IfRuns (run_of stop run) (λ run. has cid run.queue.flight ≡ true) → (stop ≡ false) × (has cid run.queue.flight ≡ true)
flies cid true run is = absurd is
flies cid false run is = (refl, is)

-- once a job has begun
abbrev pub begun_run : Running → Running
begun_run run = record run { queue = start_first run.queue run.queue.waiting }

pub in_flight : (q : Queue) (cid : Cid) (rest : List Cid) → q.waiting ≡ cid ∷ rest → has cid (start_first q q.waiting).flight ≡ true
in_flight q cid rest is =
    ap (λ l. has cid (start_first q l).flight) is ∙ has-append cid q.flight (cid ∷ []) ∙ or_right (has cid q.flight) (has cid (cid ∷ [])) (ap (λ b. b || false) (cid_itself cid))

is_empty : List Cid → Bool
is_empty [] = true
is_empty (c ∷ rest) = false

some_wait : (waiting : List Cid) (cid : Cid) (rest : List Cid) → waiting ≡ cid ∷ rest → waiting ≢ []
unfolding is_empty
some_wait waiting cid rest is none = never (sym (ap is_empty none) ∙ ap is_empty is)

first_waits : (waiting : List Cid) (cid : Cid) (rest : List Cid) → waiting ≡ cid ∷ rest → first_waiting (waits waiting) ≡ Some cid
first_waits waiting cid rest is = ap (λ l. first_waiting (waits l)) is

tried : (q : Queue) (cid : Cid) (rest : List Cid) → q.waiting ≡ cid ∷ rest → give_back (start_first q q.waiting) cid ≡ tried_first q q.waiting
tried q cid rest is = ap (λ l. give_back (start_first q l) cid) is ∙ sym (ap (tried_first q) is)

-- the replies to deliveries

step_plan : (peers : List Place) (s : ReplicaState) (events : List Event) (said : Delivered) (answer : Reply) → IsStepReply said answer → StepsWith peers s events answer → StepEvents peers s events answer
step_plan peers s events (delivered.Processed position) answer is = subst (λ r. StepsWith peers s events r → StepEvents peers s events r) (sym is) (λ steps. steps)
step_plan peers s events delivered.Missing answer is = subst (λ r. StepsWith peers s events r → StepEvents peers s events r) (sym is) (λ steps. steps)
step_plan peers s events (delivered.Bad damage) answer is = subst (λ r. StepsWith peers s events r → StepEvents peers s events r) (sym is) (λ steps. steps)
step_plan peers s events delivered.Known answer is = absurd is

not_idle : (run : Running) (said : Delivered) (answer : Reply) → IsStepReply said answer → run.queue.waiting ≢ [] → IsIdle (Some run) answer
not_idle run (delivered.Processed position) answer is some = subst (λ r. IsIdle (Some run) r) (sym is) some
not_idle run delivered.Missing answer is some = subst (λ r. IsIdle (Some run) r) (sym is) some
not_idle run (delivered.Bad damage) answer is some = subst (λ r. IsIdle (Some run) r) (sym is) some
not_idle run delivered.Known answer is some = absurd is

some_reply : (durable : Durable) (cid : Cid) (found : Option (List ℕ)) (said : Delivered) → IsDelivered durable cid found said → (answer : Reply) × IsStepReply said answer
some_reply durable cid found (delivered.Processed position) is = (reply.Processed, refl)
some_reply durable cid found delivered.Missing is = (reply.Missing, refl)
some_reply durable cid found (delivered.Bad damage) is = (reply.Bad damage, refl)
some_reply durable cid found delivered.Known is = absurd is

-- events that were cut short where there are none
none_cut : (rose : Type 0) (m n : ReplicaState) (events so_far rest : List Event) → events ≡ [] → events ≡ so_far ++ rest → IsCutShort rest rose (all_happen m so_far) n → rose × (n ≡ stopped m)
none_cut rose m n events [] [] none split fate = fate
none_cut rose m n events [] (event ∷ rest) none split fate = absurd (let f : [] ≡ event ∷ rest = sym none ∙ split in cc)
none_cut rose m n events (event ∷ so_far) rest none split fate = absurd (let f : [] ≡ event ∷ (so_far ++ rest) = sym none ∙ split in cc)

-- what a delivery does, from before the job began
module _ (content : Option Kept) (fuse : Option Fuse) (run : Running) (cid : Cid) (rest : List Cid) (waiting : run.queue.waiting ≡ cid ∷ rest) (found : Option (List ℕ)) where
  abbrev Old : Option ReplicaState
  Old = state_of content fuse (Some run)

  abbrev Mid : Option ReplicaState
  Mid = state_of content fuse (Some (begun_run run))

  wants : (kept : Kept) → Goes (Want ∷ []) (at kept fuse (Some run)) (at kept fuse (Some (begun_run run)))
  wants kept = want_goes kept fuse run (some_wait run.queue.waiting cid rest waiting)

  planned : (kept : Kept) (events : List Event) (said : Delivered) → DeliverEvents (at kept fuse (Some (begun_run run))) cid found events said → DeliversIn true (durable_of kept) cid found events said
  planned kept events said plan = subst (λ t. DeliversIn t (durable_of kept) cid found events said) (in_flight run.queue cid rest waiting) plan

  steps : (peers : List Place) (kept : Kept) (events : List Event) (said : Delivered) (answer : Reply) → IsFound (kept_of (durable_of kept)) peers cid found → IsStepReply said answer
      → DeliverEvents (at kept fuse (Some (begun_run run))) cid found events said → StepEvents peers (at kept fuse (Some run)) (Want ∷ events) answer
  steps peers kept events said answer is_found says plan =
      let done = planned kept events said plan in
      step_plan peers (at kept fuse (Some run)) (Want ∷ events) said answer says (record {
        cid = cid;
        found = found;
        delivered = said;
        first = first_waits run.queue.waiting cid rest waiting;
        is_found = is_found;
        job = ap (λ l. Want ∷ l) done.0;
        becomes = done.1;
        says = says;
      })

  happens_delivery : (peers : List Place) (rose : Type 0) (said : Delivered) (answer : Reply) → IsStepReply said answer → (y : Option ReplicaState) → IfSome Old (λ s. IsFound (kept_of s.state.durable) peers cid found)
      → Told Mid y (λ m n. Call (Is (read_refusal m)) (DeliverEvents m cid found) (DeliverShort m cid) rose (Ok said) m n)
      → Told Old y (λ s n. (events : List Event) × StepEvents peers s events answer × Goes events s n)
  happens_delivery peers rose said answer says y is_found call = over content y is_found call
    where
      over : (content : Option Kept) (y : Option ReplicaState) → IfSome (state_of content fuse (Some run)) (λ s. IsFound (kept_of s.state.durable) peers cid found)
          → Told (state_of content fuse (Some (begun_run run))) y (λ m n. Call (Is (read_refusal m)) (DeliverEvents m cid found) (DeliverShort m cid) rose (Ok said) m n)
          → Told (state_of content fuse (Some run)) y (λ s n. (events : List Event) × StepEvents peers s events answer × Goes events s n)
      over None y is_found call = tt
      over (Some kept) None is_found call = absurd call
      over (Some kept) (Some n) is_found call = (
        Want ∷ call.events,
        steps peers kept call.events said answer is_found says call.makes,
        goes_then (Want ∷ []) call.events (at kept fuse (Some run)) (at kept fuse (Some (begun_run run))) n (wants kept) call.goes,
      )

  cut_delivery : (peers : List Place) (rose : Type 0) (y : Option ReplicaState) → IfSome Old (λ s. IsFound (kept_of s.state.durable) peers cid found)
      → Told Mid y (λ m n. Faults (DeliverEvents m cid found) rose m n)
      → Told Old y (λ s n. Faults (λ events answer. StepEvents peers s events answer) rose s n)
  cut_delivery peers rose y is_found call = over content y is_found call
    where
      over : (content : Option Kept) (y : Option ReplicaState) → IfSome (state_of content fuse (Some run)) (λ s. IsFound (kept_of s.state.durable) peers cid found)
          → Told (state_of content fuse (Some (begun_run run))) y (λ m n. Faults (DeliverEvents m cid found) rose m n)
          → Told (state_of content fuse (Some run)) y (λ s n. Faults (λ events answer. StepEvents peers s events answer) rose s n)
      over None y is_found call = tt
      over (Some kept) None is_found call = absurd call
      over (Some kept) (Some n) is_found call = elim call.begins [
        | inl none ↦
            let cut = none_cut rose (at kept fuse (Some (begun_run run))) n call.events call.breaks.so_far call.breaks.rest none call.breaks.split call.breaks.fate in
            subst (λ x. Faults (λ events answer. StepEvents peers (at kept fuse (Some run)) events answer) rose (at kept fuse (Some run)) x) (sym cut.1)
            (nothing_done (λ events answer. StepEvents peers (at kept fuse (Some run)) events answer) rose (at kept fuse (Some run)) cut.0)
        | inr plan ↦
            let answer = some_reply (durable_of kept) cid found plan.0 (planned kept call.events plan.0 plan.1).1 in
            record {
              events = Want ∷ call.events;
              begins = inr (answer.0, steps peers kept call.events plan.0 answer.0 is_found answer.1 plan.1);
              breaks = breaks_after (Want ∷ []) call.events rose (at kept fuse (Some run)) (at kept fuse (Some (begun_run run))) n (wants kept) call.breaks;
            }
      ]

  short_delivery : (r : ℕ) (y : Option ReplicaState) → Told Mid y (λ m n. DeliverShort m cid n) → Told Old y (Leaves (Step r))
  short_delivery r y call = over content y call
    where
      over : (content : Option Kept) (y : Option ReplicaState) → Told (state_of content fuse (Some (begun_run run))) y (λ m n. DeliverShort m cid n) → Told (state_of content fuse (Some run)) y (Leaves (Step r))
      over None y call = tt
      over (Some kept) None call = absurd call
      over (Some kept) (Some n) call = inr (
        cid,
        first_waits run.queue.waiting cid rest waiting,
        goes_then (Want ∷ []) (GiveBack cid ∷ []) (at kept fuse (Some run)) (at kept fuse (Some (begun_run run))) n (wants kept) call.1,
      )

  -- giving back does no more than that
  back_delivery : (r : ℕ) (y : Option ReplicaState) → Told Mid y (λ m n. HappensIn m.state.run (λ run. cond (has cid run.queue.flight) (GiveBack cid ∷ []) []) m n) → Told Old y (Leaves (Step r))
  back_delivery r y call = over content y call
    where
      over : (content : Option Kept) (y : Option ReplicaState) → Told (state_of content fuse (Some (begun_run run))) y (λ m n. HappensIn m.state.run (λ run. cond (has cid run.queue.flight) (GiveBack cid ∷ []) []) m n)
          → Told (state_of content fuse (Some run)) y (Leaves (Step r))
      over None y call = tt
      over (Some kept) None call = absurd call
      over (Some kept) (Some n) call = inr (
        cid,
        first_waits run.queue.waiting cid rest waiting,
        goes_then (Want ∷ []) (GiveBack cid ∷ []) (at kept fuse (Some run)) (at kept fuse (Some (begun_run run))) n (wants kept)
            (subst (λ t. Goes (cond t (GiveBack cid ∷ []) []) (at kept fuse (Some (begun_run run))) n) (in_flight run.queue cid rest waiting) call),
      )

-- what a delivery was told to do, and what is told of the step

abbrev Delivers : Cid → Option (List ℕ) → Type 0 → Delivered → ReplicaState → ReplicaState → Type 0
Delivers cid found rose said m n = Call (Is (read_refusal m)) (DeliverEvents m cid found) (DeliverShort m cid) rose (Ok said) m n

abbrev Steps : WorldState → ℕ → Reply → ReplicaState → ReplicaState → Type 0
Steps w r answer s n = (events : List Event) × StepEvents (peers_of w r) s events answer × Goes events s n

abbrev Cuts : Cid → Option (List ℕ) → Type 0 → ReplicaState → ReplicaState → Type 0
Cuts cid found rose m n = Faults (DeliverEvents m cid found) rose m n

abbrev StepCuts : WorldState → ℕ → Type 0 → ReplicaState → ReplicaState → Type 0
StepCuts w r rose s n = Faults (λ events answer. StepEvents (peers_of w r) s events answer) rose s n

abbrev Shorts : Cid → ReplicaState → ReplicaState → Type 0
Shorts cid m n = DeliverShort m cid n

abbrev Backs : Cid → ReplicaState → ReplicaState → Type 0
Backs cid m n = HappensIn m.state.run (λ run. cond (has cid run.queue.flight) (GiveBack cid ∷ []) []) m n

no_fault_said : (said : Delivered) (answer : Reply) → IsStepReply said answer → answers_fault {E = ActError} (Ok answer) ≡ false
no_fault_said (delivered.Processed position) answer is = ap (λ r. answers_fault {E = ActError} (Ok r)) is
no_fault_said delivered.Missing answer is = ap (λ r. answers_fault {E = ActError} (Ok r)) is
no_fault_said (delivered.Bad damage) answer is = ap (λ r. answers_fault {E = ActError} (Ok r)) is
no_fault_said delivered.Known answer is = absurd is

module _ {K D : Type 0} {g : keeper.Ghosts K D} {h : counted.Ghosts K} {i : counted.Ghosts D} (k : Members K D) (planted : List Planted) (old new : Replica K D g h i) (cid : Cid) where
  -- where the job began
  module _ (p : Place) (begun : Begun cid p (up k planted old)) where
    old_run : (old.stopped ≡ false) × (running_of old ≡ begun_run begun.run)
    old_run = run_is old.stopped (running_of old) (begun_run begun.run) (ap (λ q. q.run) begun.after)

    -- what is told between, seen from there
    between : (P : ReplicaState → ReplicaState → Type 0) → Told (state_at (up k planted old)) (state_at (up k planted new)) P
        → Told (state_of p.content p.fuse (Some (begun_run begun.run))) (state_at (up k planted new)) P
    between P call = subst (λ (q : Place). Told (state_at q) (state_at (up k planted new)) P) begun.after call

    from_start : (P : ReplicaState → ReplicaState → Type 0) → Told (state_of p.content p.fuse (Some begun.run)) (state_at (up k planted new)) P → Told (state_at p) (state_at (up k planted new)) P
    from_start P call = subst (λ (run : Option Running). Told (state_of p.content p.fuse run) (state_at (up k planted new)) P) (sym begun.runs) call

    runs_on : RestSame old new → new.stopped ≡ old.stopped → RunOn SameBatch p.run (run_of new.stopped (running_of new))
    runs_on rest stops = subst (λ x. RunOn SameBatch x (run_of new.stopped (running_of new))) (sym begun.runs)
        (subst (λ b. RunOn SameBatch (Some begun.run) (run_of b (running_of new))) (sym (stops ∙ old_run.0)) (
          rest.walk_same ∙ ap (λ (run : Running). run.walk) old_run.1,
          rest.whole_same ∙ ap (λ (run : Running). run.whole) old_run.1,
          rest.batch_same ∙ ap (λ (run : Running). run.batch) old_run.1,
        ))

    silent_on : {failed : Bool} → Continues k failed old new → p.content ≡ None → k.told new.keeper ≡ None
    silent_on keeps none = keeps.keeper_goes.silent (ap (λ q. q.content) begun.after ∙ none)

    runs_there : is_down p.run ≡ false
    runs_there = ap is_down begun.runs

    short_at : {failed : Bool} (r : ℕ) → Continues k failed old new → RestSame old new → new.stopped ≡ old.stopped → Told (state_at p) (state_at (up k planted new)) (Leaves (Step r)) → ShortAt (Step r) p (up k planted new)
    short_at r keeps rest stops told = record {
      runs = subst (λ x. StillRuns x (run_of new.stopped (running_of new))) (sym begun.runs) (subst (λ x. RunOn SameBatch x (run_of new.stopped (running_of new))) begun.runs (runs_on rest stops));
      silent = silent_on keeps;
      planted_same = ap (λ q. q.planted) begun.after;
      told = told;
    }

    found_at : (w : WorldState) (r : ℕ) (found : Option (List ℕ)) → IsFoundAt w r p cid found → IfSome (state_of p.content p.fuse (Some begun.run)) (λ s. IsFound (kept_of s.state.durable) (peers_of w r) cid found)
    found_at w r found is = subst (λ (run : Option Running). IfSome (state_of p.content p.fuse run) (λ s. IsFound (kept_of s.state.durable) (peers_of w r) cid found)) begun.runs is

  abbrev Calls : Option (List ℕ) → Result Delivered CoreError → Type 0
  Calls found result = Acts k (λ s. Is (read_refusal s)) (λ s. DeliverEvents s cid found) (λ s. DeliverShort s cid) result old new

  abbrev Ends : Option (List ℕ) → Result Reply ActError → Type 0
  Ends found result = DeliversAt k cid found result (up k planted old) (up k planted new) old.keeper new.keeper

  pub delivers_ok : (found : Option (List ℕ)) (said : Delivered) (answer : Reply) → IsStepReply said answer → Calls found (Ok said) → Continues k false old new → RestSame old new → Ends found (Ok answer)
  delivers_ok found said answer says call keeps rest = record {
    row = λ w r p begun is_found. inl (inr (
      allowed_at w p.content p.fuse p.run p.planted r (runs_there p begun),
      (
        (
          record {
            run_on = runs_on p begun rest keeps.stops;
            silent = silent_on p begun keeps;
            planted_same = ap (λ q. q.planted) begun.after;
          },
          subst (λ x. IsIdle x answer) (sym begun.runs) (not_idle begun.run said answer says (some_wait begun.run.queue.waiting cid begun.rest begun.waits)),
        ),
        from_start p begun (Steps w r answer) (happens_delivery p.content p.fuse begun.run cid begun.rest begun.waits found (peers_of w r) (Rose (k.own old.keeper) (k.own new.keeper)) said answer says
            (state_at (up k planted new)) (found_at p begun w r found is_found) (between p begun (Delivers cid found (Rose (k.own old.keeper) (k.own new.keeper)) said) call)),
      ),
    ));
    short = λ r p begun e. is_no_error e;
    not_bad = λ e. is_no_error e;
    goes = subst (λ b. KeeperGoes k (cond b 1 0) 0 old.keeper new.keeper) (sym (no_fault_said said answer says)) (keeper_goes keeps.keeper_goes);
  }

  why_at : (fuse fuse2 : Option Fuse) (own : Type 0) → (has_fired fuse fuse2 ≡ false → own) → (has_fired fuse fuse2 ≡ true) ⊎ own
  why_at fuse fuse2 own rose = by_test (has_fired fuse fuse2) refl
    where
      by_test : (t : Bool) → has_fired fuse fuse2 ≡ t → (has_fired fuse fuse2 ≡ true) ⊎ own
      by_test true is = inl is
      by_test false is = inr (rose is)

  delivers_not : (found : Option (List ℕ)) (error : CoreError) → IsFlying cid (up k [] old) → Calls found (Err error) → Continues k (is_fault_kind (kind_of error)) old new → DecidesAlone error → seen_of error ≡ stop_front old.stopped None → RestSame old new → Ends found (answer_of error)
  delivers_not found core.KeeperFault flying call keeps alone front rest = record {
    row = λ w r p begun is_found. inr (
      refl,
      keeps.keeper_goes.faults_go.rose refl,
      ap (λ b. stop_front b None) (runs_there p begun),
      refl,
      record {
        down = ap (λ b. run_of b (running_of new)) keeps.stops;
        silent = silent_on p begun keeps;
        planted_same = ap (λ q. q.planted) begun.after;
        why = why_at p.fuse (k.fuse new.keeper) (Rose (k.own old.keeper) (k.own new.keeper))
            (λ none. keeps.keeper_goes.own_rose (ap (λ q. has_fired q.fuse (k.fuse new.keeper)) begun.after ∙ none) refl);
        told = from_start p begun (StepCuts w r (Rose (k.own old.keeper) (k.own new.keeper))) (cut_delivery p.content p.fuse begun.run cid begun.rest begun.waits found (peers_of w r) (Rose (k.own old.keeper) (k.own new.keeper))
            (state_at (up k planted new)) (found_at p begun w r found is_found) (between p begun (Cuts cid found (Rose (k.own old.keeper) (k.own new.keeper))) call));
      },
    );
    short = λ r p begun e. is_no_error e;
    not_bad = λ e. is_no_error e;
    goes = keeper_goes keeps.keeper_goes;
  }
  delivers_not found core.Stopped flying call keeps alone front rest = never (ap is_some (front ∙ ap (λ b. stop_front b None) (flies cid old.stopped (running_of old) flying).0))
  delivers_not found core.Memory flying call keeps alone front rest = record {
    row = λ w r p begun is_found. tt;
    short = λ r p begun e. short_at p begun r keeps rest keeps.stops
        (from_start p begun (Leaves (Step r)) (short_delivery p.content p.fuse begun.run cid begun.rest begun.waits found r (state_at (up k planted new)) (between p begun (Shorts cid) call)));
    not_bad = λ e. short_is_not_bad e;
    goes = keeper_goes keeps.keeper_goes;
  }
  delivers_not found error flying call keeps alone front rest = no_other error old.stopped refl alone front

  pub delivers_broke : (found : Option (List ℕ)) (error : CoreError) (result : Result Reply ActError) → result ≡ answer_of error → IsFlying cid (up k [] old) → Calls found (Err error) → Continues k (is_fault_kind (kind_of error)) old new → DecidesAlone error
      → seen_of error ≡ stop_front old.stopped None → RestSame old new → Ends found result
  delivers_broke found error result is flying call keeps alone front rest = subst (λ (result : Result Reply ActError). Ends found result) (sym is) (delivers_not found error flying call keeps alone front rest)

  -- a job that is given back
  pub backs : HappensTo k (λ run. cond (has cid run.queue.flight) (GiveBack cid ∷ []) []) old new → new.keeper ≡ old.keeper → new.stopped ≡ old.stopped → RestSame old new
      → (running_of new).queue ≡ cond (has cid (running_of old).queue.flight) (give_back (running_of old).queue cid) (running_of old).queue → IsFlying cid (up k [] old)
      → BacksAt k cid (up k planted old) (up k planted new) old.keeper new.keeper
  backs goes keeper_is stops rest wanted flying = record {
    back = λ p begun. subst (λ (x : Option Running). IfRuns x (λ run. (run.queue.waiting ≢ []) × (up k planted new ≡ record p { run = Some (record run { queue = tried_first run.queue run.queue.waiting }) }))) (sym begun.runs)
        (some_wait begun.run.queue.waiting cid begun.rest begun.waits, given p begun);
    short = λ r p begun. record {
      runs = subst (λ x. StillRuns x (run_of new.stopped (running_of new))) (sym begun.runs) (subst (λ x. RunOn SameBatch x (run_of new.stopped (running_of new))) begun.runs (runs_on p begun rest stops));
      silent = λ none. ap k.told keeper_is ∙ ap (λ q. q.content) begun.after ∙ none;
      planted_same = ap (λ q. q.planted) begun.after;
      told = from_start p begun (Leaves (Step r)) (back_delivery p.content p.fuse begun.run cid begun.rest begun.waits None r (state_at (up k planted new)) (between p begun (Backs cid) goes));
    };
    same = keeper_is;
  }
    where
      wanted_now : (p : Place) (begun : Begun cid p (up k planted old)) → (running_of new).queue ≡ tried_first begun.run.queue begun.run.queue.waiting
      wanted_now p begun = wanted ∙ ap (λ t. cond t (give_back (running_of old).queue cid) (running_of old).queue) (flies cid old.stopped (running_of old) flying).1
          ∙ ap (λ (run : Running). give_back run.queue cid) (old_run p begun).1 ∙ tried begun.run.queue cid begun.rest begun.waits

      run_now : (p : Place) (begun : Begun cid p (up k planted old)) → run_of new.stopped (running_of new) ≡ Some (record begun.run { queue = tried_first begun.run.queue begun.run.queue.waiting })
      run_now p begun = ap (λ b. run_of b (running_of new)) (stops ∙ (old_run p begun).0) ∙ (λ j. Some (record {
        queue = wanted_now p begun j;
        walk = (rest.walk_same ∙ ap (λ (run : Running). run.walk) (old_run p begun).1) j;
        batch = (rest.batch_same ∙ ap (λ (run : Running). run.batch) (old_run p begun).1) j;
        whole = (rest.whole_same ∙ ap (λ (run : Running). run.whole) (old_run p begun).1) j;
      }))

      given : (p : Place) (begun : Begun cid p (up k planted old)) → up k planted new ≡ record p { run = Some (record begun.run { queue = tried_first begun.run.queue begun.run.queue.waiting }) }
      given p begun = λ j. record {
        content = (ap k.told keeper_is ∙ ap (λ q. q.content) begun.after) j;
        fuse = (ap k.fuse keeper_is ∙ ap (λ q. q.fuse) begun.after) j;
        run = run_now p begun j;
        planted = (ap (λ q. q.planted) begun.after) j;
      }
