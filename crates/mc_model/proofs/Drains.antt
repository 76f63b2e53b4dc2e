-- A drain as a fact about two states: where it begins, what goes on with it, and how it ends.
use Rattle.std.proofs.Common.{◌≡◌, ◌+◌, ◌≤◌, Bool, true, false, ◌&&◌, ◌||◌, List, [], ◌∷◌, ◌++◌, length, drop, Option, Some, None, sym, refl, ap, ◌∙◌, subst, inl, inr, ◌⊎◌, arith}
use Rattle.std.specs.Prelude.{⊤}
use Rattle.std.proofs.lemmas.List.{append_assoc}
use Rattle.std.proofs.lemmas.List.Folds.{list_any-append}
use Rattle.std.proofs.lemmas.Bool.{and_from, and_parts, or_left, or_right, or_cases}
use Rattle.std.proofs.Math.Seq.{drop-append_seam}
use Rattle.mc_base.specs.declared.cid.Cid.{Cid}
use Rattle.mc_model.specs.Drain.{is_in_order, offered_links, DrainRuns, Drains, DrainsAll, IsDrained, IsClosure, IsSoFar}
use Rattle.mc_model.specs.Draining.{queue_in, came, DrainsWith, IsDraining, IsClosing, may_be_stored}
use Rattle.mc_model.specs.Events.{Event, Store, Process, Hear, Want, GiveBack, Missing, Bad, Requeue, WalkBegin, WalkVisit, WalkEnd, Batch, Stop, Open, MayRun, MayCome, with_blocks, with_processed, processed_queue, runs, comes, happens, after, MayComeAll}
use Rattle.mc_model.specs.Found.{is_found, found_links, Offers}
use Rattle.mc_model.specs.Front.{same_cid}
use Rattle.mc_model.specs.Graph.{Vertex, times, has, in_graph, links_in}
use Rattle.mc_model.specs.State.{Durable, Running, State, DurableHolds, RunHolds, IsSound, wanted_in}
use Rattle.mc_model.specs.Wanted.{Queue, wanted, IsOnce, start_first, give_back, to_missing, to_bad, requeue}
use Rattle.mc_model.proofs.Counts.{times_has, has_times, times_none, has-append}
use Rattle.mc_model.proofs.Drain.{Drained, apart, starts, drained_same, drained_process, drained_then, wanted_on, all_added, within, coming, wanted_added, closed_in, coming_left}
use Rattle.mc_model.proofs.Held.{same_give_back, same_to_missing, same_to_bad, same_requeue, same_start}
use Rattle.mc_model.proofs.Sound.{sound_after}

pub came_is : (order now added : List Cid) → now ≡ order ++ added → came order now ≡ added
came_is order now added grown = ap (drop (length order)) grown ∙ drop-append_seam order added

module _ (found : Offers) (old : Durable) (start : List Cid) where
  pub to_drained : (now : Durable) (q : Queue) → IsDraining found old start now q → Drained found old.order start start now.order q (came old.order now.order)
  to_drained now q d = record { grown = d.grown; good = d.good; in_order = d.in_order; still = d.still; linked = d.linked; traced = d.traced }

  pub from_drained : (now : Durable) (q : Queue) (added : List Cid) → Drained found old.order start start now.order q added → IsDraining found old start now q
  from_drained now q added g =
      subst (DrainsWith found old start now q) (sym (came_is old.order now.order added g.grown))
      (record { grown = g.grown; good = g.good; in_order = g.in_order; still = g.still; linked = g.linked; traced = g.traced })

  pub moved : (now : Durable) (p q : Queue) → ((c : Cid) → times c (wanted q) ≡ times c (wanted p)) → IsDraining found old start now p → IsDraining found old start now q
  moved now p q same d = from_drained now q _ (drained_same found old.order start start now.order p q _ same (to_drained now p d))

  -- at its end
  pub ends : (now : Durable) (q : Queue) → IsOnce now.order q → IsDraining found old start now q → ((c : Cid) → has c (wanted q) ≡ true → is_found (found c) ≡ false) → IsClosing found old start now q
  ends now q once d done = let g = to_drained now q d in record {
    within = within found old.order start start now.order q _ g;
    whole = closed_in found old.order start now.order q _ g done;
    coming = λ c e. (coming found old.order start start now.order q _ g c e, λ h. apart now.order q once c e (closed_in found old.order start now.order q _ g done c h));
    left = coming_left found old.order start now.order q _ g done;
  }

pub begins : (found : Offers) (durable : Durable) (q : Queue) → IsDraining found durable (wanted q) durable q
begins found durable q = from_drained found durable (wanted q) durable q [] (starts found durable.order (wanted q) (wanted q) q (λ c e. e) (λ c e. e))

pub joins : (found : Offers) (old : Durable) (start : List Cid) (mid : Durable) (p : Queue) (now : Durable) (q : Queue) → IsOnce mid.order p
    → IsDraining found old start mid p → IsDraining found mid (wanted p) now q → IsDraining found old start now q
joins found old start mid p now q once d e =
    from_drained found old start now q _
    (drained_then found old.order start start mid.order p now.order q _ _ once (to_drained found old start mid p d) (to_drained found mid (wanted p) now q e))

-- the start counts by its members
pub order_alike : (found : Offers) (start other : List Cid) → ((c : Cid) → has c start ≡ has c other) → (before added : List Cid) → is_in_order found start before added ≡ is_in_order found other before added
order_alike found start other same before [] = refl
order_alike found start other same before (c ∷ added) =
    ap (λ t. (t || has c (offered_links found before)) && is_in_order found start (before ++ c ∷ []) added) (same c)
    ∙ ap (λ rest. (has c other || has c (offered_links found before)) && rest) (order_alike found start other same (before ++ c ∷ []) added)

pub alike : (found : Offers) (old : Durable) (start other : List Cid) (now : Durable) (q : Queue) → ((c : Cid) → has c start ≡ has c other) → IsDraining found old start now q → IsDraining found old other now q
alike found old start other now q same d = record {
  grown = d.grown;
  good = d.good;
  in_order = sym (order_alike found start other same [] (came old.order now.order)) ∙ d.in_order;
  still = λ c e. d.still c (same c ∙ e);
  linked = d.linked;
  traced = λ c e. sym (ap (λ t. t || has c (offered_links found (came old.order now.order))) (same c)) ∙ d.traced c e;
}

-- what is stored

-- nothing is stored but what the drain takes
abbrev pub IsTaken : Offers → Durable → Durable → Queue → Type 0
IsTaken found old now q = (c : Cid) → in_graph now.graph c ≡ true → may_be_stored found old now q c ≡ true

-- in which of the three ways
pub taken_cases : (found : Offers) (old now : Durable) (q : Queue) (c : Cid) → may_be_stored found old now q c ≡ true
    → (in_graph old.graph c ≡ true) ⊎ (has c (came old.order now.order) ≡ true) ⊎ ((has c (wanted q) ≡ true) × (is_found (found c) ≡ true))
taken_cases found old now q c e = elim (or_cases (in_graph old.graph c) _ e) [
  | inl h ↦ inl h
  | inr h ↦ inr (elim (or_cases (has c (came old.order now.order)) (has c (wanted q) && is_found (found c)) h) [ inl k ↦ inl k | inr k ↦ inr (and_parts (has c (wanted q)) (is_found (found c)) k) ])
]

-- what has come stays so, and what is wanted comes or is wanted still
pub taken_on : (found : Offers) (old now new : Durable) (q r : Queue) → ((c : Cid) → has c (came old.order now.order) ≡ true → has c (came old.order new.order) ≡ true)
    → ((c : Cid) → has c (wanted q) ≡ true → (has c (came old.order new.order) ≡ true) ⊎ (has c (wanted r) ≡ true)) → (c : Cid) → may_be_stored found old now q c ≡ true → may_be_stored found old new r c ≡ true
taken_on found old now new q r on still c e = elim (taken_cases found old now q c e) [
  | inl h ↦ or_left _ _ h
  | inr h ↦ or_right (in_graph old.graph c) _ (elim h [
    | inl k ↦ or_left _ _ (on c k)
    | inr k ↦ elim (still c k.0) [ inl l ↦ or_left _ _ l | inr l ↦ or_right (has c (came old.order new.order)) _ (and_from _ _ l k.1) ]
  ])
]

-- one event

-- what an event may store and process, whatever it says of offers
abbrev pub StepRuns : Offers → Durable → Running → Event → Type 0
StepRuns found durable run (Missing c) = ⊤
StepRuns found durable run (Bad c damage) = ⊤
StepRuns found durable run event = DrainRuns found durable run event

pub runs_step : (found : Offers) (durable : Durable) (run : Running) (event : Event) → DrainRuns found durable run event → StepRuns found durable run event
runs_step found durable run (Missing c) does = tt
runs_step found durable run (Bad c damage) does = tt
runs_step found durable run event does = does

-- what is known of a drain here is known of it there
pub record Advances (found : Offers) (old : Durable) (start : List Cid) (now : Durable) (p : Queue) (new : Durable) (q : Queue) : Type 0 where
  pub draining : IsDraining found old start now p → IsDraining found old start new q
  pub taken : IsDraining found old start now p → IsTaken found old now p → IsTaken found old new q

module _ (found : Offers) (old : Durable) (start : List Cid) (now : Durable) where
  -- the same is wanted, in other parts
  same_advances : (p q : Queue) → ((c : Cid) → times c (wanted q) ≡ times c (wanted p)) → Advances found old start now p now q
  same_advances p q same = record {
    draining = moved found old start now p q same;
    taken = λ d t c e. taken_on found old now now p q (λ x k. k) (λ x k. inr (has_times x (wanted q) (omega (arith, same x, times_has x (wanted p) k)))) c (t c e);
  }

  advances_store : (q : Queue) (blocks : List Vertex) → ((c : Cid) → in_graph blocks c ≡ true → (has c (wanted q) ≡ true) × (is_found (found c) ≡ true))
      → Advances found old start now q (with_blocks now blocks) q
  advances_store q blocks does = record {
    draining = λ d. from_drained found old start (with_blocks now blocks) q _ (to_drained found old start now q d);
    taken = λ d t c e. elim (or_cases (in_graph now.graph c) (in_graph blocks c) (sym (list_any-append (λ (vertex : Vertex). same_cid c vertex.cid) now.graph blocks) ∙ e)) [
      | inl h ↦ t c h
      | inr h ↦ or_right (in_graph old.graph c) _ (or_right (has c (came old.order now.order)) _ (and_from _ _ (does c h).0 (does c h).1))
    ];
  }

  advances_process : (whole : Bool) (q : Queue) (cids : List Cid) → IsOnce now.order q → ((c : Cid) → times c now.order + times c cids ≤ 1)
      → ((c : Cid) → has c cids ≡ true → (has c (wanted q) ≡ true) × (is_found (found c) ≡ true) × (links_in now.graph c ≡ found_links (found c)))
      → Advances found old start now q (with_processed whole now cids) (processed_queue now q cids)
  advances_process whole q cids once fresh does = record {
    draining = λ d. from_drained found old start (with_processed whole now cids) (processed_queue now q cids) _ (more d);
    taken = λ d t c e. taken_on found old now (with_processed whole now cids) q (processed_queue now q cids)
        (λ x k. ap (has x) (is d) ∙ has-append x (came old.order now.order) cids ∙ or_left _ (has x cids) k)
        (λ x k. elim (wanted_on found old.order start start now q cids _ once fresh does (to_drained found old start now q d) x k) [
          | inl l ↦ inl (ap (has x) (is d) ∙ has-append x (came old.order now.order) cids ∙ or_right (has x (came old.order now.order)) _ l)
          | inr l ↦ inr l
        ]) c (t c e);
  }
    where
      more : IsDraining found old start now q → Drained found old.order start start (now.order ++ cids) (processed_queue now q cids) (came old.order now.order ++ cids)
      more d = drained_process found old.order start start now q cids _ once fresh does (to_drained found old start now q d)

      is : IsDraining found old start now q → came old.order (now.order ++ cids) ≡ came old.order now.order ++ cids
      is d = came_is old.order (now.order ++ cids) _ (more d).grown

  pub advances : (run : Running) (event : Event) → MayRun now run event → StepRuns found now run event → IsOnce now.order run.queue
      → Advances found old start now run.queue (runs now run event).durable (queue_in (runs now run event).run)
  advances run (Store blocks) may does once = advances_store run.queue blocks does
  advances run (Process cids) may does once = advances_process run.whole run.queue cids once may.1 does
  advances run Want may does once = same_advances run.queue (start_first run.queue run.queue.waiting) (same_start run.queue)
  advances run (GiveBack c) may does once = same_advances run.queue (give_back run.queue c) (same_give_back now.order run.queue c once may)
  advances run (Missing c) may does once = same_advances run.queue (to_missing run.queue c) (same_to_missing now.order run.queue c once may)
  advances run (Bad c damage) may does once = same_advances run.queue (to_bad run.queue c damage) (same_to_bad now.order run.queue c damage once may)
  advances run Requeue may does once = same_advances run.queue (requeue run.queue) (same_requeue run.queue)
  advances run (Hear cids) may does once = absurd does
  advances run WalkBegin may does once = absurd does
  advances run WalkVisit may does once = absurd does
  advances run WalkEnd may does once = absurd does
  advances run (Batch batch) may does once = absurd does
  advances run Stop may does once = absurd does
  advances run Open may does once = absurd does

pub step : (found : Offers) (old : Durable) (start : List Cid) (now : Durable) (run : Running) (event : Event) → MayRun now run event → DrainRuns found now run event → IsOnce now.order run.queue
    → IsDraining found old start now run.queue → IsDraining found old start (runs now run event).durable (queue_in (runs now run event).run)
step found old start now run event may does once = (advances found old start now run event may (runs_step found now run event does) once).draining

-- all events

-- how far a drain has come, with what is stored
pub record Advanced (found : Offers) (old : Durable) (start : List Cid) (now : Durable) (q : Queue) : Type 0 where
  pub draining : IsDraining found old start now q
  pub taken : IsTaken found old now q

pub advanced_on : (found : Offers) (old : Durable) (start : List Cid) (now : Durable) (p : Queue) (new : Durable) (q : Queue) → Advances found old start now p new q → Advanced found old start now p → Advanced found old start new q
advanced_on found old start now p new q on a = record { draining = on.draining a.draining; taken = on.taken a.draining a.taken }

-- where a state is sound, no block stands twice
pub once_in : (durable : Durable) (run : Option Running) → DurableHolds durable → RunHolds durable run → IsOnce durable.order (queue_in run)
once_in durable None holds h = λ c. omega (arith, holds.order_once c)
once_in durable (Some run) holds h = h.0

module _ (found : Offers) (old : Durable) (start : List Cid) where
  advanced_after : (durable : Durable) (run : Option Running) (event : Event) → MayCome durable run event → Drains found durable run event → RunHolds durable run
      → Advanced found old start durable (queue_in run) → Advanced found old start (comes durable run event).durable (queue_in (comes durable run event).run)
  advanced_after durable None event may does holds a = absurd does
  advanced_after durable (Some run) event may does holds a = advanced_on found old start _ _ _ _ (advances found old start durable run event may (runs_step found durable run event does) holds.0) a

  -- at the end of the events: sound, and as far as said
  record Arrives (state : State) : Type 0 where
    sound : IsSound state
    advanced : Advanced found old start state.durable (queue_in state.run)

  arrives : (state : State) (events : List Event) → IsSound state → MayComeAll state events → DrainsAll found state events → Advanced found old start state.durable (queue_in state.run) → Arrives (after state events)
  arrives state [] sound may does a = record { sound = sound; advanced = a }
  arrives state (event ∷ events) sound may does a =
      arrives (happens state event) events (sound_after state.durable state.run event may.0 sound.durable sound.run) may.1 does.1
      (advanced_after state.durable state.run event may.0 does.0 sound.run a)

  closure_of : (now : Durable) (q : Queue) → IsOnce now.order q → ((c : Cid) → has c (wanted q) ≡ true → is_found (found c) ≡ false) → Advanced found old start now q → IsClosure found old start now (wanted q)
  closure_of now q once done a =
      let g = to_drained found old start now q a.draining in
      let end = ends found old start now q once a.draining done in
      record {
        added = came old.order now.order;
        grown = g.grown;
        in_order = g.in_order;
        within = end.within;
        whole = end.whole;
        stored = λ c e. elim (taken_cases found old now q c (a.taken c e)) [
          | inl h ↦ inl h
          | inr h ↦ inr (elim h [
            | inl k ↦ k
            | inr k ↦ absurd (let no : true ≡ false = sym k.1 ∙ done c k.0 in cc)
          ])
        ];
        coming = end.coming;
        left = end.left;
      }

  so_far_of : (now : Durable) (q : Queue) → IsOnce now.order q → Advanced found old start now q → IsSoFar found old start now (wanted q)
  so_far_of now q once a =
      let g = to_drained found old start now q a.draining in
      record {
        added = came old.order now.order;
        grown = g.grown;
        in_order = g.in_order;
        within = within found old.order start start now.order q _ g;
        stored = λ c e. elim (taken_cases found old now q c (a.taken c e)) [
          | inl h ↦ inl h
          | inr h ↦ inr (elim h [
            | inl k ↦ all_added found old.order start start now.order q _ g c k
            | inr k ↦ wanted_added found old.order start start now.order q _ g once c k.0 k.1
          ])
        ];
        coming = coming found old.order start start now.order q _ g;
      }

  pub closure_in : (durable : Durable) (run : Option Running) → DurableHolds durable → RunHolds durable run → ((c : Cid) → has c (wanted_in run) ≡ true → is_found (found c) ≡ false)
      → Advanced found old start durable (queue_in run) → IsClosure found old start durable (wanted_in run)
  closure_in durable None holds h done a = closure_of durable (queue_in None) (once_in durable None holds h) done a
  closure_in durable (Some run) holds h done a = closure_of durable run.queue h.0 done a

  pub so_far_in : (durable : Durable) (run : Option Running) → DurableHolds durable → RunHolds durable run → Advanced found old start durable (queue_in run) → IsSoFar found old start durable (wanted_in run)
  so_far_in durable None holds h a = so_far_of durable (queue_in None) (once_in durable None holds h) a
  so_far_in durable (Some run) holds h a = so_far_of durable run.queue h.0 a

-- one drain after another

abbrev pub Grown : Durable → Durable → Type 0
Grown old now = now.order ≡ old.order ++ came old.order now.order

-- what is processed now was before, or came
pub now_cases : (old now : Durable) → Grown old now → (c : Cid) → has c now.order ≡ true → (has c old.order ≡ true) ⊎ (has c (came old.order now.order) ≡ true)
now_cases old now grown c e = or_cases _ _ (sym (ap (has c) grown ∙ has-append c old.order (came old.order now.order)) ∙ e)

pub old_in : (old now : Durable) → Grown old now → (c : Cid) → has c old.order ≡ true → has c now.order ≡ true
old_in old now grown c e = ap (has c) grown ∙ has-append c old.order (came old.order now.order) ∙ or_left _ _ e

pub came_in_now : (old now : Durable) → Grown old now → (c : Cid) → has c (came old.order now.order) ≡ true → has c now.order ≡ true
came_in_now old now grown c e = ap (has c) grown ∙ has-append c old.order (came old.order now.order) ∙ or_right (has c old.order) _ e

module _ (old mid now : Durable) (first : Grown old mid) (second : Grown mid now) where
  pub came_then : came old.order now.order ≡ came old.order mid.order ++ came mid.order now.order
  came_then =
      came_is old.order now.order _
      (second ∙ ap (λ front. front ++ came mid.order now.order) first ∙ append_assoc old.order (came old.order mid.order) (came mid.order now.order))

  pub came_first : (c : Cid) → has c (came old.order mid.order) ≡ true → has c (came old.order now.order) ≡ true
  came_first c e = ap (has c) came_then ∙ has-append c (came old.order mid.order) (came mid.order now.order) ∙ or_left _ _ e

  pub came_second : (c : Cid) → has c (came mid.order now.order) ≡ true → has c (came old.order now.order) ≡ true
  came_second c e = ap (has c) came_then ∙ has-append c (came old.order mid.order) (came mid.order now.order) ∙ or_right (has c (came old.order mid.order)) _ e

  -- what is stored after one drain and another
  pub taken_then : (found : Offers) (p q : Queue) → IsOnce mid.order p → IsTaken found old mid p → Advanced found mid (wanted p) now q → IsTaken found old now q
  taken_then found p q once t a c e = elim (taken_cases found mid now q c (a.taken c e)) [
    | inl h ↦ taken_on found old mid now p q came_first still c (t c h)
    | inr h ↦ elim h [
      | inl k ↦ or_right (in_graph old.graph c) _ (or_left _ _ (came_second c k))
      | inr k ↦ or_right (in_graph old.graph c) _ (or_right (has c (came old.order now.order)) _ (and_from _ _ k.0 k.1))
    ]
  ]
    where
      still : (d : Cid) → has d (wanted p) ≡ true → (has d (came old.order now.order) ≡ true) ⊎ (has d (wanted q) ≡ true)
      still d w = by_test (has d now.order) refl
        where
          by_test : (b : Bool) → has d now.order ≡ b → (has d (came old.order now.order) ≡ true) ⊎ (has d (wanted q) ≡ true)
          by_test false h = inr (has_times d (wanted q) (omega (arith, a.draining.still d w, times_none d now.order h)))
          by_test true h = elim (now_cases mid now second d h) [
            | inl k ↦ absurd (apart mid.order p once d w k)
            | inr k ↦ inl (came_second d k)
          ]

-- a drain begins

pub advanced_start : (found : Offers) (durable : Durable) (q : Queue) → Advanced found durable (wanted q) durable q
advanced_start found durable q = record { draining = begins found durable q; taken = λ c e. or_left _ _ e }

abbrev running : Durable → Running → State
running durable run = record { durable = durable; run = Some run }

pub drain_closure : (found : Offers) (durable : Durable) (run : Running) (events : List Event) → IsSound (running durable run) → MayComeAll (running durable run) events
    → DrainsAll found (running durable run) events → IsDrained found (after (running durable run) events)
    → IsClosure found durable (wanted run.queue) (after (running durable run) events).durable (wanted_in (after (running durable run) events).run)
drain_closure found durable run events sound may does done =
    let end = arrives found durable (wanted run.queue) (running durable run) events sound may does (advanced_start found durable run.queue) in
    closure_in found durable (wanted run.queue) _ _ end.sound.durable end.sound.run done end.advanced

pub drain_so_far : (found : Offers) (durable : Durable) (run : Running) (events : List Event) → IsSound (running durable run) → MayComeAll (running durable run) events
    → DrainsAll found (running durable run) events
    → IsSoFar found durable (wanted run.queue) (after (running durable run) events).durable (wanted_in (after (running durable run) events).run)
drain_so_far found durable run events sound may does =
    let end = arrives found durable (wanted run.queue) (running durable run) events sound may does (advanced_start found durable run.queue) in
    so_far_in found durable (wanted run.queue) _ _ end.sound.durable end.sound.run end.advanced
