-- A drain beside a walk: what goes on with it, and that it ends with the closure of the wanted blocks and the gaps.
use Rattle.std.proofs.Common.{◌≡◌, ℕ, ◌≤◌, Bool, true, false, not, cond, List, [], ◌∷◌, ◌||◌, Option, Some, None, sym, refl, ap, ◌∙◌, subst, inl, inr, arith}
use Rattle.std.specs.Prelude.{take, drop, is_some}
use Rattle.std.proofs.lemmas.List.{take-append-drop}
use Rattle.std.proofs.lemmas.Bool.{or_left, or_right, or_cases}
use Rattle.std.proofs.Math.Seq.{drop-length, drop-append_seam}
use Rattle.mc_base.specs.declared.cid.Cid.{Cid}
use Rattle.mc_model.specs.Drain.{offered_links, IsDrained, IsClosure}
use Rattle.mc_model.specs.Draining.{FoundBytes, offers_of, queue_in, bytes_in, came, IsDraining, IsClosing, HasDrained}
use Rattle.mc_model.specs.Events.{Event, Store, Process, WalkBegin, WalkVisit, WalkEnd, Open, IsVisiting, MayRun, MayCome, with_walk_ended, links_at, visited, runs, comes, happens, after, MayComeAll}
use Rattle.mc_model.specs.Found.{Offers, is_found, found_links}
use Rattle.mc_model.specs.Graph.{Vertex, times, has, links_in, all_links, gaps_in}
use Rattle.mc_model.specs.Repairing.{with_gaps, RepairsWith, IsRepairing, HasRepaired, is_of_walk, RepairRuns, Repairs, RepairsAll}
use Rattle.mc_model.specs.State.{Durable, Running, State, Walk, DurableHolds, IsLinked, WholeHolds, IsSound, IsWhole, wanted_in}
use Rattle.mc_model.specs.Wanted.{Queue, wanted, IsOnce, want_all}
use Rattle.mc_model.proofs.Counts.{times_has, has_times, times_none, times-filter, has-append, links_in_more, linker, linked_from}
use Rattle.mc_model.proofs.Drain.{Drained, apart, false_of, starts, drained_then, drained_want}
use Rattle.mc_model.proofs.Drains.{Advanced, Grown, IsTaken, StepRuns, advanced_on, advanced_start, advances, came_in_now, came_is, came_then, closure_in, ends, now_cases, old_in, once_in, order_alike, runs_step, taken_on, taken_then, to_drained}
use Rattle.mc_model.proofs.Held.{grows_want_all}
use Rattle.mc_model.proofs.InOrder.{is_traced, offered_link}
use Rattle.mc_model.proofs.Sound.{sound_after}
use Rattle.mc_model.proofs.Takings.{stored_found}

-- links that stay, and those of what came
record LinksKept (found : Offers) (old now : Durable) : Type 0 where
  same : (c : Cid) → has c old.order ≡ true → links_in now.graph c ≡ links_in old.graph c
  offered : (c : Cid) → has c (came old.order now.order) ≡ true → links_in now.graph c ≡ found_links (found c)

-- nothing has come where the order is the same
none_came : (order : List Cid) (c : Cid) → has c (came order order) ≡ true → ⊥
none_came order c e = let no : false ≡ true = sym (ap (has c) (drop-length order)) ∙ e in absurd (cc)

-- and after one another
links_then : (found : Offers) (old mid now : Durable) → Grown old mid → Grown mid now → LinksKept found old mid → LinksKept found mid now → LinksKept found old now
links_then found old mid now first second a b = record {
  same = λ c e. b.same c (old_in old mid first c e) ∙ a.same c e;
  offered = λ c e. elim (or_cases _ _ (sym (ap (has c) (came_then old mid now first second) ∙ has-append c (came old.order mid.order) (came mid.order now.order)) ∙ e)) [
    | inl k ↦ b.same c (came_in_now old mid first c k) ∙ a.offered c k
    | inr k ↦ b.offered c k
  ];
}

module _ (found : Offers) (old : Durable) (start : List Cid) where
  to_part : (now : Durable) (q : Queue) → IsRepairing found old start now q → Drained found old.order start (with_gaps old start) now.order q (came old.order now.order)
  to_part now q r = record { grown = r.grown; good = r.good; in_order = r.in_order; still = r.still; linked = r.linked; traced = r.traced }

  to_links : (now : Durable) (q : Queue) → IsRepairing found old start now q → LinksKept found old now
  to_links now q r = record { same = r.same; offered = r.offered }

  put_together : (now : Durable) (q : Queue) (added : List Cid) → Drained found old.order start (with_gaps old start) now.order q added → LinksKept found old now → IsRepairing found old start now q
  put_together now q added g l =
      let is : came old.order now.order ≡ added = came_is old.order now.order added g.grown in
      subst (RepairsWith found old start now q) (sym is)
      (record { grown = g.grown; good = g.good; in_order = g.in_order; still = g.still; linked = g.linked; traced = g.traced; same = l.same; offered = λ c e. l.offered c (ap (has c) is ∙ e) })

  -- after a repair a drain
  repaired_then : (mid : Durable) (p : Queue) (now : Durable) (q : Queue) → IsOnce mid.order p → IsRepairing found old start mid p → IsDraining found mid (wanted p) now q → LinksKept found mid now → IsRepairing found old start now q
  repaired_then mid p now q once r d l =
      put_together now q _
      (drained_then found old.order start (with_gaps old start) mid.order p now.order q _ _ once (to_part mid p r) (to_drained found mid (wanted p) now q d))
      (links_then found old mid now r.grown d.grown (to_links mid p r) l)

-- what one event of a drain does to the links
links_event : (found : Offers) (durable : Durable) (run : Running) (event : Event) → DurableHolds durable → StepRuns found durable run event → LinksKept found durable (runs durable run event).durable
links_event found durable run (Store blocks) holds does = record {
  same = λ c e. links_in_more durable.graph blocks c (holds.stored c e);
  offered = λ c e. absurd (none_came durable.order c e);
}
links_event found durable run (Process cids) holds does = record {
  same = λ c e. refl;
  offered = λ c e. (does c (sym (ap (has c) (drop-append_seam durable.order cids)) ∙ e)).2;
}
links_event found durable run WalkVisit holds does = absurd does
links_event found durable run event holds does = record { same = λ c e. refl; offered = λ c e. absurd (none_came durable.order c e) }

-- one event of a drain, from where it stands
one_advanced : (found : Offers) (durable : Durable) (run : Running) (event : Event) → MayRun durable run event → StepRuns found durable run event → IsOnce durable.order run.queue
    → Advanced found durable (wanted run.queue) (runs durable run event).durable (queue_in (runs durable run event).run)
one_advanced found durable run event may does once =
    advanced_on found durable (wanted run.queue) durable run.queue _ _ (advances found durable (wanted run.queue) durable run event may does once) (advanced_start found durable run.queue)

-- the walk

-- a list has what a part of it has
has_part : (n v : ℕ) (xs : List Cid) (c : Cid) → has c (take n (drop v xs)) ≡ true → has c xs ≡ true
has_part n v xs c e =
    sym (ap (has c) (take-append-drop v xs)) ∙ has-append c (take v xs) (drop v xs)
    ∙ or_right (has c (take v xs)) _ (sym (ap (has c) (take-append-drop n (drop v xs))) ∙ has-append c (take n (drop v xs)) (drop n (drop v xs)) ∙ or_left _ _ e)

gap_from : (graph : List Vertex) (order : List Cid) (c : Cid) → has c (all_links graph order) ≡ true → has c order ≡ false → has c (gaps_in graph order) ≡ true
gap_from graph order c e f =
    has_times c (gaps_in graph order)
    (subst (λ n. 1 ≤ n) (sym (times-filter c (λ d. not (has d order)) (all_links graph order) ∙ ap (λ t. cond (not t) (times c (all_links graph order)) 0) f)) (times_has c (all_links graph order) e))

gap_of : (graph : List Vertex) (order : List Cid) (c : Cid) → has c (gaps_in graph order) ≡ true → has c (all_links graph order) ≡ true
gap_of graph order c e =
    has_times c (all_links graph order) (elim (not (has c order)) as (λ t. 1 ≤ cond t (times c (all_links graph order)) 0 → 1 ≤ times c (all_links graph order)) [
      | true ↦ λ h. h
      | false ↦ λ h. absurd (omega arith)
    ] (subst (λ n. 1 ≤ n) (times-filter c (λ d. not (has d order)) (all_links graph order)) (times_has c (gaps_in graph order) e)))

-- what is wanted stays so while links come to be wanted
wanted_still : (order : List Cid) (q : Queue) (cids : List Cid) → IsOnce order q → (c : Cid) → has c (wanted q) ≡ true → has c (wanted (want_all order q cids)) ≡ true
wanted_still order q cids once c w =
    has_times c (wanted (want_all order q cids))
    (omega (arith, times_has c (wanted q) w, (grows_want_all order q cids).more c, times_none c order (false_of c order (apart order q once c w))))

-- where whole is true each link of a processed block is processed or wanted
all_linked : (durable : Durable) (q : Queue) (walk : Option Walk) (whole : Bool) → whole ≡ true → WholeHolds durable q walk whole → IsLinked durable q durable.order
all_linked durable q walk true e h = h.1
all_linked durable q walk false e h = absurd (cc)

module _ (found : Offers) (old : Durable) (start : List Cid) where
  -- a visited link is a gap, or an added block links to it
  traced_visit : (now : Durable) (q : Queue) (v : ℕ) → IsRepairing found old start now q → (c : Cid) → has c (links_at now v) ≡ true → has c now.order ≡ false
      → is_traced found (with_gaps old start) (came old.order now.order) c ≡ true
  traced_visit now q v r c e out = let by = linker now.graph (take 1 (drop v now.order)) c e in elim (now_cases old now r.grown by.cid (has_part 1 v now.order by.cid by.within)) [
    | inl k ↦ or_left _ _ (has-append c start (gaps_in old.graph old.order) ∙ or_right (has c start) _
        (gap_from old.graph old.order c (linked_from old.graph old.order by.cid c k (sym (ap (has c) (r.same by.cid k)) ∙ by.linked)) old_out))
    | inr k ↦ or_right (has c (with_gaps old start)) _ (offered_link found (came old.order now.order) by.cid c k (sym (ap (has c) (r.offered by.cid k)) ∙ by.linked))
  ]
    where
      old_out : has c old.order ≡ false
      old_out = false_of c old.order (λ h. let no : true ≡ false = sym (old_in old now r.grown c h) ∙ out in absurd (cc))

  repairing_visit : (now : Durable) (run : Running) (walk : Option Walk) → IsVisiting walk → IsOnce now.order run.queue → IsRepairing found old start now run.queue
      → IsRepairing found old start (visited now run walk).durable (queue_in (visited now run walk).run)
  repairing_visit now run None may once r = absurd may
  repairing_visit now run (Some (end, next)) may once r =
      put_together found old start now (want_all now.order run.queue (links_at now next)) _
      (drained_want found old.order start (with_gaps old start) now.order run.queue (links_at now next) _ once (traced_visit now run.queue next r) (to_part found old start now run.queue r))
      (to_links found old start now run.queue r)

  taken_visit : (now : Durable) (run : Running) (walk : Option Walk) → IsOnce now.order run.queue → IsTaken found old now run.queue → IsTaken found old (visited now run walk).durable (queue_in (visited now run walk).run)
  taken_visit now run None once t = t
  taken_visit now run (Some (end, next)) once t =
      λ c e. taken_on found old now now run.queue (want_all now.order run.queue (links_at now next)) (λ d k. k) (λ d w. inr (wanted_still now.order run.queue (links_at now next) once d w)) c (t c e)

  -- one event of a drain or of a walk
  pub repairing_run : (now : Durable) (run : Running) (event : Event) → IsSound (record { durable = now; run = Some run }) → MayRun now run event → RepairRuns found now run event
      → IsRepairing found old start now run.queue → IsRepairing found old start (runs now run event).durable (queue_in (runs now run event).run)
  repairing_run now run WalkBegin sound may does r = r
  repairing_run now run WalkVisit sound may does r = repairing_visit now run run.walk may sound.run.0 r
  repairing_run now run WalkEnd sound may does r =
      put_together found old start (with_walk_ended now) run.queue _ (to_part found old start now run.queue r) (record { same = r.same; offered = r.offered })
  repairing_run now run event sound may does r =
      repaired_then found old start now run.queue _ _ sound.run.0 r
      (one_advanced found now run event may (runs_step found now run event does) sound.run.0).draining (links_event found now run event sound.durable (runs_step found now run event does))

  taken_run : (now : Durable) (run : Running) (event : Event) → IsSound (record { durable = now; run = Some run }) → MayRun now run event → RepairRuns found now run event → IsRepairing found old start now run.queue
      → IsTaken found old now run.queue → IsTaken found old (runs now run event).durable (queue_in (runs now run event).run)
  taken_run now run WalkBegin sound may does r t = t
  taken_run now run WalkVisit sound may does r t = taken_visit now run run.walk sound.run.0 t
  taken_run now run WalkEnd sound may does r t = t
  taken_run now run event sound may does r t =
      let a = one_advanced found now run event may (runs_step found now run event does) sound.run.0 in
      taken_then old now (runs now run event).durable r.grown a.draining.grown found run.queue (queue_in (runs now run event).run) sound.run.0 t a

  -- where whole is true, the gaps are wanted
  pub repaired_whole : (now : Durable) (run : Running) → IsSound (record { durable = now; run = Some run }) → run.whole ≡ true → IsRepairing found old start now run.queue
      → IsDraining found old (with_gaps old start) now run.queue
  repaired_whole now run sound whole r = record {
    grown = r.grown;
    good = r.good;
    in_order = r.in_order;
    still = λ c e. elim (or_cases (has c start) (has c (gaps_in old.graph old.order)) (sym (has-append c start (gaps_in old.graph old.order)) ∙ e)) [
      | inl k ↦ r.still c k
      | inr k ↦ let by = linker old.graph old.order c (gap_of old.graph old.order c k) in
          all_linked now run.queue run.walk run.whole whole sound.run.1 c
          (linked_from now.graph now.order by.cid c (old_in old now r.grown by.cid by.within) (ap (has c) (r.same by.cid by.within) ∙ by.linked))
    ];
    linked = r.linked;
    traced = r.traced;
  }

  pub repaired_ends : (now : Durable) (run : Running) → IsSound (record { durable = now; run = Some run }) → run.whole ≡ true → IsRepairing found old start now run.queue
      → ((c : Cid) → has c (wanted run.queue) ≡ true → is_found (found c) ≡ false) → IsClosing found old (with_gaps old start) now run.queue
  repaired_ends now run sound whole r done = ends found old (with_gaps old start) now run.queue sound.run.0 (repaired_whole now run sound whole r) done

  -- all events

  -- how far a repair has come, with what is stored
  record Repaired (now : Durable) (q : Queue) : Type 0 where
    repairing : IsRepairing found old start now q
    taken : IsTaken found old now q

  repaired_after : (durable : Durable) (run : Option Running) (event : Event) → IsSound (record { durable = durable; run = run }) → MayCome durable run event → Repairs found durable run event
      → Repaired durable (queue_in run) → Repaired (comes durable run event).durable (queue_in (comes durable run event).run)
  repaired_after durable None event sound may does r = absurd does
  repaired_after durable (Some run) event sound may does r =
      record { repairing = repairing_run durable run event sound may does r.repairing; taken = taken_run durable run event sound may does r.repairing r.taken }

  -- at the end of the events: sound, and as far as said
  record Arrives (state : State) : Type 0 where
    sound : IsSound state
    repaired : Repaired state.durable (queue_in state.run)

  arrives : (state : State) (events : List Event) → IsSound state → MayComeAll state events → RepairsAll found state events → Repaired state.durable (queue_in state.run) → Arrives (after state events)
  arrives state [] sound may does r = record { sound = sound; repaired = r }
  arrives state (event ∷ events) sound may does r =
      arrives (happens state event) events (sound_after state.durable state.run event may.0 sound.durable sound.run) may.1 does.1
      (repaired_after state.durable state.run event sound may.0 does.0 r)

  repaired_advanced : (durable : Durable) (run : Option Running) → IsSound (record { durable = durable; run = run }) → IsWhole run → Repaired durable (queue_in run) → Advanced found old (with_gaps old start) durable (queue_in run)
  repaired_advanced durable None sound whole r = absurd whole
  repaired_advanced durable (Some run) sound whole r = record { draining = repaired_whole durable run sound whole r.repairing; taken = r.taken }

pub repaired_begins : (found : Offers) (durable : Durable) (q : Queue) → IsRepairing found durable (wanted q) durable q
repaired_begins found durable q =
    put_together found durable (wanted q) durable q []
    (starts found durable.order (wanted q) (with_gaps durable (wanted q)) q (λ c e. e) (λ c e. has-append c (wanted q) (gaps_in durable.graph durable.order) ∙ or_left _ _ e))
    (record { same = λ c e. refl; offered = λ c e. absurd (none_came durable.order c e) })

abbrev running : Durable → Running → State
running durable run = record { durable = durable; run = Some run }

pub repaired_closure : (found : Offers) (durable : Durable) (run : Running) (events : List Event) → IsSound (running durable run) → MayComeAll (running durable run) events
    → RepairsAll found (running durable run) events → IsWhole (after (running durable run) events).run → IsDrained found (after (running durable run) events)
    → IsClosure found durable (with_gaps durable (wanted run.queue)) (after (running durable run) events).durable (wanted_in (after (running durable run) events).run)
repaired_closure found durable run events sound may does whole done =
    let end = arrives found durable (wanted run.queue) (running durable run) events sound may does (record { repairing = repaired_begins found durable run.queue; taken = λ c e. or_left _ _ e }) in
    closure_in found durable (with_gaps durable (wanted run.queue)) _ _ end.sound.durable end.sound.run done
    (repaired_advanced found durable (wanted run.queue) _ _ end.sound whole end.repaired)

-- the start counts by its members
repairing_alike : (found : Offers) (old : Durable) (start other : List Cid) (now : Durable) (q : Queue) → ((c : Cid) → has c start ≡ has c other) → IsRepairing found old start now q → IsRepairing found old other now q
repairing_alike found old start other now q same r = record {
  grown = r.grown;
  good = r.good;
  in_order = sym (order_alike found (with_gaps old start) (with_gaps old other) gaps_same [] (came old.order now.order)) ∙ r.in_order;
  still = λ c e. r.still c (same c ∙ e);
  linked = r.linked;
  traced = λ c e. sym (ap (λ t. t || has c (offered_links found (came old.order now.order))) (gaps_same c)) ∙ r.traced c e;
  same = r.same;
  offered = r.offered;
}
  where
    gaps_same : (c : Cid) → has c (with_gaps old start) ≡ has c (with_gaps old other)
    gaps_same c = has-append c start (gaps_in old.graph old.order) ∙ ap (λ t. t || has c (gaps_in old.graph old.order)) (same c) ∙ sym (has-append c other (gaps_in old.graph old.order))

-- where it is known which bytes are found

module _ (bytes_of : FoundBytes) (kept : List Cid) (old : Durable) (start : List Cid) where
  -- what is stored keeps its links
  found_links_kept : (mid now : State) → IsSound mid → IsSound now → Grown mid.durable now.durable → ((c : Cid) (bytes : List ℕ) → bytes_in mid.durable.graph c ≡ Some bytes → bytes_of c ≡ Some bytes)
      → ((c : Cid) (bytes : List ℕ) → bytes_in now.durable.graph c ≡ Some bytes → bytes_of c ≡ Some bytes) → LinksKept (offers_of bytes_of) mid.durable now.durable
  found_links_kept mid now sound later grown stored here = record {
    same = λ c e. now_is c (old_in mid.durable now.durable grown c e) ∙ ap found_links (stored_found bytes_of mid.durable.graph sound.durable.good stored c (sound.durable.stored c e));
    offered = λ c e. now_is c (came_in_now mid.durable now.durable grown c e);
  }
    where
      now_is : (c : Cid) → has c now.durable.order ≡ true → links_in now.durable.graph c ≡ found_links (offers_of bytes_of c)
      now_is c e = sym (ap found_links (stored_found bytes_of now.durable.graph later.durable.good here c (later.durable.stored c e)))

  pub repaired_joins : (mid now : State) → IsSound mid → IsSound now → HasRepaired bytes_of kept old start mid → HasDrained bytes_of kept mid.durable (wanted (queue_in mid.run)) now → HasRepaired bytes_of kept old start now
  repaired_joins mid now sound later r d =
      let once = once_in mid.durable mid.run sound.durable sound.run in record {
        repairing =
            repaired_then (offers_of bytes_of) old start mid.durable (queue_in mid.run) now.durable (queue_in now.run) once r.repairing d.draining
            (found_links_kept mid now sound later d.draining.grown r.stored d.stored);
        stored = d.stored;
        taken = taken_then old mid.durable now.durable r.repairing.grown d.draining.grown (offers_of bytes_of) (queue_in mid.run) (queue_in now.run) once r.taken (record { draining = d.draining; taken = d.taken });
        own = d.own;
      }

  pub repaired_alike : (other : List Cid) (state : State) → ((c : Cid) → has c start ≡ has c other) → HasRepaired bytes_of kept old start state → HasRepaired bytes_of kept old other state
  repaired_alike other state same r = record {
    repairing = repairing_alike (offers_of bytes_of) old start other state.durable (queue_in state.run) same r.repairing;
    stored = r.stored;
    taken = r.taken;
    own = r.own;
  }

  visit_walks : (durable : Durable) (run : Running) (walk : Option Walk) → IsSound (running durable run) → IsVisiting walk → HasRepaired bytes_of kept old start (running durable run) → HasRepaired bytes_of kept old start (visited durable run walk)
  visit_walks durable run None sound may r = absurd may
  visit_walks durable run (Some (end, next)) sound may r = record {
    repairing = repairing_visit (offers_of bytes_of) old start durable run (Some (end, next)) may sound.run.0 r.repairing;
    stored = r.stored;
    taken = taken_visit (offers_of bytes_of) old start durable run (Some (end, next)) sound.run.0 r.taken;
    own = r.own;
  }

  walks_after : (durable : Durable) (run : Option Running) (event : Event) → IsSound (record { durable = durable; run = run }) → MayCome durable run event → is_of_walk event ≡ true
      → HasRepaired bytes_of kept old start (record { durable = durable; run = run }) → HasRepaired bytes_of kept old start (comes durable run event)
  walks_after durable (Some run) WalkBegin sound may is r = record { repairing = r.repairing; stored = r.stored; taken = r.taken; own = r.own }
  walks_after durable (Some run) WalkVisit sound may is r = visit_walks durable run run.walk sound may r
  walks_after durable (Some run) WalkEnd sound may is r =
      record { repairing = repairing_run (offers_of bytes_of) old start durable run WalkEnd sound may tt r.repairing; stored = r.stored; taken = r.taken; own = r.own }
  walks_after durable (Some run) event sound may is r = let no : false ≡ true = is in absurd (cc)
  walks_after durable None Open sound may is r = let no : false ≡ true = is in absurd (cc)
  walks_after durable None event sound may is r = absurd may

  pub repaired_walks : (state : State) (event : Event) → IsSound state → MayCome state.durable state.run event → is_of_walk event ≡ true → HasRepaired bytes_of kept old start state → HasRepaired bytes_of kept old start (happens state event)
  repaired_walks state event sound may is r = walks_after state.durable state.run event sound may is r

  whole_after : (durable : Durable) (run : Option Running) → IsSound (record { durable = durable; run = run }) → IsWhole run → IsRepairing (offers_of bytes_of) old start durable (queue_in run)
      → IsDraining (offers_of bytes_of) old (with_gaps old start) durable (queue_in run)
  whole_after durable None sound whole r = absurd whole
  whole_after durable (Some run) sound whole r = repaired_whole (offers_of bytes_of) old start durable run sound whole r

  pub repaired_drained : (state : State) → IsSound state → IsWhole state.run → HasRepaired bytes_of kept old start state → HasDrained bytes_of kept old (with_gaps old start) state
  repaired_drained state sound whole r = record { draining = whole_after state.durable state.run sound whole r.repairing; stored = r.stored; taken = r.taken; own = r.own }

pub repaired_start : (bytes_of : FoundBytes) (kept : List Cid) (state : State) → ((c : Cid) (bytes : List ℕ) → bytes_in state.durable.graph c ≡ Some bytes → bytes_of c ≡ Some bytes)
    → ((c : Cid) → has c kept ≡ true → is_some (bytes_in state.durable.graph c) ≡ true) → HasRepaired bytes_of kept state.durable (wanted (queue_in state.run)) state
repaired_start bytes_of kept state stored own = record { repairing = repaired_begins (offers_of bytes_of) state.durable (queue_in state.run); stored = stored; taken = λ c e. or_left _ _ e; own = own }
