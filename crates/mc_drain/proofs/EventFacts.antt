-- Events of a drain, and of one that breaks off.
use Rattle.std.proofs.Common.{◌≡◌, ◌≤◌, ◌+◌, ℕ, Bool, true, false, ◌&&◌, ◌||◌, List, [], ◌∷◌, ◌++◌, length, Option, Some, None, refl, sym, ap, ◌∙◌, subst, arith, inl, inr, length-append}
use Rattle.std.proofs.lemmas.Bool.{false≢true}
use Rattle.mc_base.specs.declared.cid.Cid.{Cid}
use Rattle.mc_model.specs.Drain.{PartsFit}
use Rattle.mc_model.specs.Draining.{AllSayRight, HasDrained, TakesAll, came, offers_of, queue_in}
use Rattle.mc_model.specs.Events.{Event, Store, Process, Hear, Want, GiveBack, Missing, Bad, Requeue, WalkBegin, WalkVisit, WalkEnd, Batch, Stop, Open, GoesOn, MayComeAll, after, happens, visited}
use Rattle.mc_model.specs.Found.{Offers, is_found}
use Rattle.mc_model.specs.Graph.{has, in_graph}
use Rattle.mc_model.specs.State.{Durable, IsSound, Running, State}
use Rattle.mc_model.specs.Wanted.{wanted}
use Rattle.mc_fetch.specs.Fits.{Map}
use Rattle.mc_keep.specs.Causes.{fires, CommitFails}
use Rattle.mc_core.specs.Events.{Breaks, Goes, IsCutShort, ReplicaState, all_happen}
use Rattle.mc_core.proofs.GrowthFacts.{GrowLaw, breaks_grows, goes_grows, same_goes}
use Rattle.mc_core.proofs.SoundFacts.{all_after, goes_sound, may_all}
use Rattle.mc_drain.specs.Leads.{Always, HasBrokenOff, Leads, LeadsBy, StoredIn, all_processes, count, processes}
use Rattle.mc_drain.proofs.StoredFacts.{StoredAsked}
use Rattle.mc_drain.proofs.FuseFacts.{IsPaced, breaks_burns, burns_none, goes_burns}

abbrev order_of : State → List Cid
order_of state = state.durable.order

-- an event makes the order no shorter, and longer by no more than it processes
abbrev Grown : ℕ → ℕ → ℕ → Type 0
Grown before more now = (before ≤ now) × (now ≤ before + more)

grown_same : (n m : ℕ) → Grown n m n
grown_same n m = (omega arith, omega arith)

run_grown : (durable : Durable) (run : Running) (event : Event) → Grown (length durable.order) (processes event) (length (order_of (happens (record { durable = durable; run = Some run }) event)))
run_grown durable run (Store blocks) = grown_same _ _
run_grown durable run (Process cids) = let e = length-append durable.order cids in (omega (arith, e), omega (arith, e))
run_grown durable run (Hear cids) = grown_same _ _
run_grown durable run Want = grown_same _ _
run_grown durable run (GiveBack c) = grown_same _ _
run_grown durable run (Missing c) = grown_same _ _
run_grown durable run (Bad c damage) = grown_same _ _
run_grown durable run Requeue = grown_same _ _
run_grown durable run WalkBegin = grown_same _ _
run_grown durable run WalkVisit = visit run.walk
  where
    visit : (walk : Option (ℕ × ℕ)) → Grown (length durable.order) 0 (length (visited durable run walk).durable.order)
    visit None = grown_same _ _
    visit (Some (n, v)) = grown_same _ _
run_grown durable run WalkEnd = grown_same _ _
run_grown durable run (Batch batch) = grown_same _ _
run_grown durable run Stop = grown_same _ _
run_grown durable run Open = grown_same _ _

pub event_grown : (durable : Durable) (run : Option Running) (event : Event) → Grown (length durable.order) (processes event) (length (order_of (happens (record { durable = durable; run = run }) event)))
event_grown durable (Some run) event = run_grown durable run event
event_grown durable None Open = grown_same _ _
event_grown durable None (Store blocks) = grown_same _ _
event_grown durable None (Process cids) = grown_same _ _
event_grown durable None (Hear cids) = grown_same _ _
event_grown durable None Want = grown_same _ _
event_grown durable None (GiveBack c) = grown_same _ _
event_grown durable None (Missing c) = grown_same _ _
event_grown durable None (Bad c damage) = grown_same _ _
event_grown durable None Requeue = grown_same _ _
event_grown durable None WalkBegin = grown_same _ _
event_grown durable None WalkVisit = grown_same _ _
event_grown durable None WalkEnd = grown_same _ _
event_grown durable None (Batch batch) = grown_same _ _
event_grown durable None Stop = grown_same _ _

grown_then : (a b c m n : ℕ) → Grown a m b → Grown b n c → Grown a (m + n) c
grown_then a b c m n p q = (omega (arith, p.0, q.0), omega (arith, p.1, q.1))

all_grown : (state : State) (events : List Event) → Grown (length (order_of state)) (all_processes events) (length (order_of (after state events)))
all_grown state [] = grown_same _ _
all_grown state (event ∷ events) =
    grown_then _ (length (order_of (happens state event))) _ (processes event) (all_processes events) (event_grown state.durable state.run event) (all_grown (happens state event) events)

processes-append : (xs ys : List Event) → all_processes (xs ++ ys) ≡ all_processes xs + all_processes ys
processes-append [] ys = omega arith
processes-append (x ∷ xs) ys = let e = processes-append xs ys in omega (arith, e)

-- what a drain asks of events that stand one after another

takes_front : (map : Map) (state : State) (xs ys : List Event) → TakesAll map state (xs ++ ys) → TakesAll map state xs
takes_front map state [] ys t = tt
takes_front map state (x ∷ xs) ys t = (t.0, takes_front map (happens state x) xs ys t.1)

takes_back : (map : Map) (state : State) (xs ys : List Event) → TakesAll map state (xs ++ ys) → TakesAll map (after state xs) ys
takes_back map state [] ys t = t
takes_back map state (x ∷ xs) ys t = takes_back map (happens state x) xs ys t.1

-- a drain, seen at what outlives a stop
pub broken_at : (map : Map) (kept : List Cid) (old : Durable) (start : List Cid) (state : State) → HasDrained map kept old start state → HasBrokenOff map old start state.durable
broken_at map kept old start state h = record {
  grown = h.draining.grown;
  good = h.draining.good;
  in_order = h.draining.in_order;
  stored = h.stored;
  taken = λ c e. left (in_graph old.graph c) (has c (came old.order state.durable.order)) (has c (wanted (queue_in state.run))) (is_found (offers_of map c)) _ (h.taken c e) (h.draining.traced c);
}
  where
    left : (graph added queued found traced : Bool) → (graph || (added || (queued && found))) ≡ true → (queued ≡ true → traced ≡ true) → (graph || (added || (traced && found))) ≡ true
    left true added queued found traced e t = refl
    left false true queued found traced e t = refl
    left false false true found true e t = e
    left false false true found false e t = absurd (false≢true (t refl))
    left false false false found traced e t = absurd (false≢true e)

-- the laws of a drain, and of its parts
abbrev pub GoesLaw : Type 0
GoesLaw = (bytes_of : Map) (kept : List Cid) (old : Durable) (start : List Cid) (state : State) (events : List Event) → IsSound state → MayComeAll state events → TakesAll bytes_of state events
    → HasDrained bytes_of kept old start state → HasDrained bytes_of kept old start (after state events)

abbrev pub StayLaw : Type 0
StayLaw = (found : Offers) (state : State) (events : List Event) → AllSayRight found events → PartsFit found (queue_in state.run) → PartsFit found (queue_in (after state events).run)

-- what is asked of the events of a call, wherever P holds
abbrev pub Asked : (Map → List Cid → Type 0) → State → List Event → Type 0
Asked P state events = (map : Map) (kept : List Cid) → P map kept → TakesAll map state events × AllSayRight (offers_of map) events

-- the same, the first wherever P holds and the second wherever R does
abbrev pub AskedBy : (Map → List Cid → Type 0) → (Map → List Cid → Type 0) → State → List Event → Type 0
AskedBy P R state events =
    ((map : Map) (kept : List Cid) → P map kept → TakesAll map state events) × ((map : Map) (kept : List Cid) → R map kept → AllSayRight (offers_of map) events)

pub asked_by : (P : Map → List Cid → Type 0) (state : State) (events : List Event) → Asked P state events → AskedBy P P state events
asked_by P state events asked = (λ map kept p. (asked map kept p).0, λ map kept p. (asked map kept p).1)

-- what needs nothing to be known of what is found
pub always_stored : (state : State) (events : List Event) → Asked Always state events → StoredAsked state events
always_stored state events asked = λ map h. (asked map [] tt).0

-- what is left where the keeper failed at a commit
pub fails_left : (map : Map) (old : Durable) (start : List Cid) (fire : Option Bool) (rose : Type 0) (before whole left : Durable) → CommitFails fire rose before whole left → HasBrokenOff map old start before → HasBrokenOff map old start whole
    → HasBrokenOff map old start left
fails_left map old start None rose before whole left (r, inl e) p q = subst (HasBrokenOff map old start) (sym e) p
fails_left map old start None rose before whole left (r, inr e) p q = subst (HasBrokenOff map old start) (sym e) q
fails_left map old start (Some false) rose before whole left e p q = subst (HasBrokenOff map old start) (sym e) p
fails_left map old start (Some true) rose before whole left (inl e) p q = subst (HasBrokenOff map old start) (sym e) q
fails_left map old start (Some true) rose before whole left (inr (r, e)) p q = subst (HasBrokenOff map old start) (sym e) p

pub fails_count : (fire : Option Bool) (rose : Type 0) (before whole left : Durable) (more : ℕ) → CommitFails fire rose before whole left → Grown (length before.order) more (length whole.order) → Grown (length before.order) more (length left.order)
fails_count None rose before whole left more (r, inl e) p = let l = ap (λ (d : Durable). length d.order) e in (omega (arith, l), omega (arith, l))
fails_count None rose before whole left more (r, inr e) p = let l = ap (λ (d : Durable). length d.order) e in (omega (arith, l, p.0), omega (arith, l, p.1))
fails_count (Some false) rose before whole left more e p = let l = ap (λ (d : Durable). length d.order) e in (omega (arith, l), omega (arith, l))
fails_count (Some true) rose before whole left more (inl e) p = let l = ap (λ (d : Durable). length d.order) e in (omega (arith, l, p.0), omega (arith, l, p.1))
fails_count (Some true) rose before whole left more (inr (r, e)) p = let l = ap (λ (d : Durable). length d.order) e in (omega (arith, l), omega (arith, l))

module _ (grow_law : GrowLaw) (goes_law : GoesLaw) (stay_law : StayLaw) where
  -- all events have happened
  pub goes_by : (P R : Map → List Cid → Type 0) (events : List Event) (s new : ReplicaState) (most : ℕ) → Goes events s new → IsSound s.state → count s + all_processes events ≤ most → IsPaced events → AskedBy P R s.state events → StoredAsked s.state events → LeadsBy false most P R s new
  goes_by P R events s new most goes sound few paced asked stored =
      let is : new.state ≡ after s.state events = ap (λ (x : ReplicaState). x.state) goes.ends ∙ all_after events s in
      let grown = all_grown s.state events in
      let len : count new ≡ length (order_of (after s.state events)) = ap (λ (x : State). length (order_of x)) is in
      record {
        grows = goes_grows grow_law events s new goes;
        few = omega (arith, grown.1, len, few);
        fuse = goes_burns events s new goes paced;
        goes = λ ok map kept p old start h. subst (HasDrained map kept old start) (sym is) (goes_law map kept old start s.state events sound (may_all events s goes.may) (asked.0 map kept p) h);
        parts = λ ok map kept p old start h f. subst (λ (x : State). PartsFit (offers_of map) (queue_in x.run)) (sym is) (stay_law (offers_of map) s.state events (asked.1 map kept p) f);
        breaks = λ e. absurd (false≢true e);
        whatever = λ ok map kept h old start d. subst (HasDrained map kept old start) (sym is) (goes_law map kept old start s.state events sound (may_all events s goes.may) (stored map (subst (λ (x : State). StoredIn map x.durable) is h)) d);
      }

  pub goes_leads : (P : Map → List Cid → Type 0) (events : List Event) (s new : ReplicaState) (most : ℕ) → Goes events s new → IsSound s.state → count s + all_processes events ≤ most → IsPaced events → Asked P s.state events → StoredAsked s.state events → Leads false most P s new
  goes_leads P events s new most goes sound few paced asked stored = goes_by P P events s new most goes sound few paced (asked_by P s.state events asked) stored

  -- nothing has happened
  pub stays_by : (P R : Map → List Cid → Type 0) (s new : ReplicaState) (most : ℕ) → new ≡ s → count s ≤ most → LeadsBy false most P R s new
  stays_by P R s new most same few = record {
    grows = subst (λ (x : ReplicaState). GoesOn s.state.durable x.state.durable) (sym same) (same_goes s.state.durable);
    few = let e = ap count same in omega (arith, e, few);
    fuse = burns_none false s new same;
    goes = λ ok map kept p old start h. subst (λ (x : ReplicaState). HasDrained map kept old start x.state) (sym same) h;
    parts = λ ok map kept p old start h f. subst (λ (x : ReplicaState). PartsFit (offers_of map) (queue_in x.state.run)) (sym same) f;
    breaks = λ e. absurd (false≢true e);
    whatever = λ ok map kept stored old start h. subst (λ (x : ReplicaState). HasDrained map kept old start x.state) (sym same) h;
  }

  pub stays_leads : (P : Map → List Cid → Type 0) (s new : ReplicaState) (most : ℕ) → new ≡ s → count s ≤ most → Leads false most P s new
  stays_leads P s new most same few = stays_by P P s new most same few

  cut_count : (events : List Event) (rose : Type 0) (s new : ReplicaState) → IsCutShort events rose s new → Grown (count s) (all_processes events) (count new)
  cut_count [] rose s new cut = let l = ap count cut.1 in (omega (arith, l), omega (arith, l))
  cut_count (event ∷ events) rose s new (inl cut) = let l = ap count cut.1 in (omega (arith, l), omega (arith, l))
  cut_count (event ∷ events) rose s new (inr b) =
      let l = ap count b.ends in
      let g = fails_count (fires s.fuse) rose s.state.durable (happens s.state event).durable b.left (processes event) b.fails (event_grown s.state.durable s.state.run event) in
      (omega (arith, l, g.0), omega (arith, l, g.1))

  cut_left : (map : Map) (kept : List Cid) (old : Durable) (start : List Cid) (events : List Event) (rose : Type 0) (s new : ReplicaState) → IsCutShort events rose s new → IsSound s.state → TakesAll map s.state events → HasDrained map kept old start s.state
      → HasBrokenOff map old start new.state.durable
  cut_left map kept old start [] rose s new cut sound takes h = subst (λ (x : ReplicaState). HasBrokenOff map old start x.state.durable) (sym cut.1) (broken_at map kept old start s.state h)
  cut_left map kept old start (event ∷ events) rose s new (inl cut) sound takes h = subst (λ (x : ReplicaState). HasBrokenOff map old start x.state.durable) (sym cut.1) (broken_at map kept old start s.state h)
  cut_left map kept old start (event ∷ events) rose s new (inr b) sound takes h =
      subst (λ (x : ReplicaState). HasBrokenOff map old start x.state.durable) (sym b.ends)
      (fails_left map old start (fires s.fuse) rose s.state.durable (happens s.state event).durable b.left b.fails (broken_at map kept old start s.state h)
      (broken_at map kept old start (happens s.state event) (goes_law map kept old start s.state (event ∷ []) sound (b.may, tt) (takes.0, tt) h)))

  -- the events are cut short
  pub breaks_by : (P R : Map → List Cid → Type 0) (events : List Event) (rose : Type 0) (s new : ReplicaState) (most : ℕ) → Breaks events rose s new → IsSound s.state → count s + all_processes events ≤ most → IsPaced events → AskedBy P R s.state events → LeadsBy true most P R s new
  breaks_by P R events rose s new most b sound few paced asked =
      let mid : ReplicaState = all_happen s b.so_far in
      let is : mid.state ≡ after s.state b.so_far = all_after b.so_far s in
      let sum = ap all_processes b.split ∙ processes-append b.so_far b.rest in
      let first = all_grown s.state b.so_far in
      let len : count mid ≡ length (order_of (after s.state b.so_far)) = ap (λ (x : State). length (order_of x)) is in
      let next = cut_count b.rest rose mid new b.fate in
      record {
        grows = breaks_grows grow_law events rose s new b;
        few = omega (arith, first.1, len, next.1, sum, few);
        fuse = breaks_burns events rose s new b next.0 paced;
        goes = λ e. absurd (false≢true (sym e));
        parts = λ e. absurd (false≢true (sym e));
        breaks = λ e map kept p old start h.
            let takes : TakesAll map s.state (b.so_far ++ b.rest) = subst (TakesAll map s.state) b.split (asked.0 map kept p) in
            cut_left map kept old start b.rest rose mid new b.fate (goes_sound b.so_far s mid (record { may = b.may; ends = refl }) sound)
            (subst (λ (x : State). TakesAll map x b.rest) (sym is) (takes_back map s.state b.so_far b.rest takes))
            (subst (HasDrained map kept old start) (sym is) (goes_law map kept old start s.state b.so_far sound (may_all b.so_far s b.may) (takes_front map s.state b.so_far b.rest takes) h));
        whatever = λ e. absurd (false≢true (sym e));
      }

  pub breaks_leads : (P : Map → List Cid → Type 0) (events : List Event) (rose : Type 0) (s new : ReplicaState) (most : ℕ) → Breaks events rose s new → IsSound s.state → count s + all_processes events ≤ most → IsPaced events → Asked P s.state events → Leads true most P s new
  breaks_leads P events rose s new most b sound few paced asked = breaks_by P P events rose s new most b sound few paced (asked_by P s.state events asked)
