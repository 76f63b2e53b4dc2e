-- Where it is known which bytes are found, a drain stores these and no others.
use Rattle.std.proofs.Common.{◌≡◌, ℕ, true, false, cond, List, [], ◌∷◌, ◌++◌, Option, Some, None, ◌||◌, sym, refl, ap, ◌∙◌, inl, inr, ◌⊎◌}
use Rattle.std.specs.Prelude.{find, is_some}
use Rattle.std.specs.Option.{option_map}
use Rattle.mc_base.specs.declared.cid.Cid.{Cid}
use Rattle.mc_model.specs.Drain.{IsDrained, IsClosure, IsSoFar}
use Rattle.mc_model.specs.Draining.{FoundBytes, offers_of, queue_in, bytes_in, HasDrained, TakesRun, Takes, TakesAll}
use Rattle.mc_model.specs.Events.{Event, Store, Process, Missing, Bad, WalkVisit, MayRun, MayCome, runs, comes, happens, after, MayComeAll}
use Rattle.mc_model.specs.Found.{Good, found_as, is_found, found_links}
use Rattle.mc_model.specs.Front.{same_cid}
use Rattle.mc_model.specs.Graph.{Vertex, has, in_graph, links_of, links_in}
use Rattle.mc_model.specs.Offer.{offer}
use Rattle.mc_model.specs.State.{Durable, Running, State, AllGood, DurableHolds, RunHolds, IsSound, wanted_in}
use Rattle.mc_model.specs.Wanted.{wanted}
use Rattle.mc_model.proofs.Counts.{cid_is}
use Rattle.mc_model.proofs.Drains.{Advanced, StepRuns, advanced_on, advanced_start, advances, alike, closure_in, joins, once_in, so_far_in, taken_then}
use Rattle.mc_model.proofs.Found.{good_reading}
use Rattle.mc_model.proofs.Sound.{sound_after}

abbrev bytes_of_vertex : Vertex → List ℕ
bytes_of_vertex vertex = vertex.bytes

-- what is stored has bytes
pub bytes_there : (graph : List Vertex) (c : Cid) → in_graph graph c ≡ true → (bytes : List ℕ) × (bytes_in graph c ≡ Some bytes)
bytes_there [] c e = absurd (cc)
bytes_there (v ∷ graph) c e =
    elim (same_cid c v.cid) as (λ t. (t || in_graph graph c) ≡ true → (bytes : List ℕ) × (option_map bytes_of_vertex (cond t (Some v) (find (λ (w : Vertex). same_cid c w.cid) graph)) ≡ Some bytes)) [
      | true ↦ λ h. (v.bytes, refl)
      | false ↦ λ h. bytes_there graph c h
    ] e

-- bytes in the one graph or the other
pub bytes_either : (graph more : List Vertex) (c : Cid) (bytes : List ℕ) → bytes_in (graph ++ more) c ≡ Some bytes → (bytes_in graph c ≡ Some bytes) ⊎ (bytes_in more c ≡ Some bytes)
bytes_either [] more c bytes e = inr e
bytes_either (v ∷ graph) more c bytes e =
    elim (same_cid c v.cid) as (λ t. option_map bytes_of_vertex (cond t (Some v) (find (λ (w : Vertex). same_cid c w.cid) (graph ++ more))) ≡ Some bytes
    → (option_map bytes_of_vertex (cond t (Some v) (find (λ (w : Vertex). same_cid c w.cid) graph)) ≡ Some bytes) ⊎ (bytes_in more c ≡ Some bytes)) [
      | true ↦ λ h. inl h
      | false ↦ λ h. bytes_either graph more c bytes h
    ] e

-- what has bytes has them in a larger graph
pub bytes_more : (graph more : List Vertex) (c : Cid) → is_some (bytes_in graph c) ≡ true → is_some (bytes_in (graph ++ more) c) ≡ true
bytes_more [] more c e = absurd (cc)
bytes_more (v ∷ graph) more c e =
    elim (same_cid c v.cid) as (λ t. is_some (option_map bytes_of_vertex (cond t (Some v) (find (λ (w : Vertex). same_cid c w.cid) graph))) ≡ true
    → is_some (option_map bytes_of_vertex (cond t (Some v) (find (λ (w : Vertex). same_cid c w.cid) (graph ++ more)))) ≡ true) [
      | true ↦ λ h. refl
      | false ↦ λ h. bytes_more graph more c h
    ] e

-- stored bytes are good, and the links are theirs
good_there : (graph : List Vertex) (c : Cid) (bytes : List ℕ) → AllGood graph → bytes_in graph c ≡ Some bytes → found_as c (Some bytes) ≡ Good (links_in graph c)
good_there [] c bytes good e = absurd (cc)
good_there (v ∷ graph) c bytes good e =
    elim (same_cid c v.cid) as (λ t. same_cid c v.cid ≡ t → option_map bytes_of_vertex (cond t (Some v) (find (λ (w : Vertex). same_cid c w.cid) graph)) ≡ Some bytes
    → found_as c (Some bytes) ≡ Good (links_of (cond t (Some v) (find (λ (w : Vertex). same_cid c w.cid) graph)))) [
      | true ↦ λ s h. first (cid_is c v.cid s) (some_is v.bytes bytes h)
      | false ↦ λ s h. good_there graph c bytes good.1 h
    ] refl e
  where
    some_is : (x y : List ℕ) → Some x ≡ Some y → x ≡ y
    some_is x y k = cc

    here : found_as v.cid (Some v.bytes) ≡ Good v.links
    here = good_reading v.cid (offer v.cid v.bytes) good.0.0 ∙ sym (ap Good good.0.1)

    first : c ≡ v.cid → v.bytes ≡ bytes → found_as c (Some bytes) ≡ Good v.links
    first k l = ap (λ (z : Cid). found_as z (Some bytes)) k ∙ sym (ap (λ (z : List ℕ). found_as v.cid (Some z)) l) ∙ here

-- so a stored block is found with its links
pub stored_found : (bytes_of : FoundBytes) (graph : List Vertex) → AllGood graph → ((c : Cid) (bytes : List ℕ) → bytes_in graph c ≡ Some bytes → bytes_of c ≡ Some bytes)
    → (c : Cid) → in_graph graph c ≡ true → offers_of bytes_of c ≡ Good (links_in graph c)
stored_found bytes_of graph good stored c e = let has_bytes = bytes_there graph c e in ap (found_as c) (stored c has_bytes.0 has_bytes.1) ∙ good_there graph c has_bytes.0 good has_bytes.1

module _ (bytes_of : FoundBytes) (kept : List Cid) (old : Durable) (start : List Cid) where
  to_advanced : (durable : Durable) (run : Option Running) → HasDrained bytes_of kept old start (record { durable = durable; run = run }) → Advanced (offers_of bytes_of) old start durable (queue_in run)
  to_advanced durable run h = record { draining = h.draining; taken = h.taken }

  -- what an event takes has a good offer with the links that are stored
  step_of : (durable : Durable) (run : Running) (event : Event) → DurableHolds durable → ((c : Cid) (bytes : List ℕ) → bytes_in durable.graph c ≡ Some bytes → bytes_of c ≡ Some bytes)
      → MayRun durable run event → TakesRun bytes_of run event → StepRuns (offers_of bytes_of) durable run event
  step_of durable run (Store blocks) holds stored may takes =
      λ c e. let has_bytes = bytes_there blocks c e in ((takes c has_bytes.0 has_bytes.1).0, ap is_found (stored_found bytes_of blocks may.0 (λ d bytes k. (takes d bytes k).1) c e))
  step_of durable run (Process cids) holds stored may takes =
      λ c e. let is = stored_found bytes_of durable.graph holds.good stored c (may.2 c e) in (takes c e, ap is_found is, sym (ap found_links is))
  step_of durable run (Missing c) holds stored may takes = tt
  step_of durable run (Bad c damage) holds stored may takes = tt
  step_of durable run event holds stored may takes = takes

  put_together : (state : State) → Advanced (offers_of bytes_of) old start state.durable (queue_in state.run) → ((c : Cid) (bytes : List ℕ) → bytes_in state.durable.graph c ≡ Some bytes → bytes_of c ≡ Some bytes)
      → ((c : Cid) → has c kept ≡ true → is_some (bytes_in state.durable.graph c) ≡ true) → HasDrained bytes_of kept old start state
  put_together state a stored own = record { draining = a.draining; stored = stored; taken = a.taken; own = own }

  taken_step : (durable : Durable) (run : Running) (event : Event) → MayRun durable run event → TakesRun bytes_of run event → HasDrained bytes_of kept old start (record { durable = durable; run = Some run })
      → Advanced (offers_of bytes_of) old start (runs durable run event).durable (queue_in (runs durable run event).run) → HasDrained bytes_of kept old start (runs durable run event)
  taken_step durable run (Store blocks) may takes h a =
      put_together (runs durable run (Store blocks)) a
      (λ c bytes e. elim (bytes_either durable.graph blocks c bytes e) [ inl k ↦ h.stored c bytes k | inr k ↦ (takes c bytes k).1 ])
      (λ c e. bytes_more durable.graph blocks c (h.own c e))
  taken_step durable run WalkVisit may takes h a = absurd takes
  taken_step durable run event may takes h a = put_together (runs durable run event) a h.stored h.own

  taken_after : (durable : Durable) (run : Option Running) (event : Event) → DurableHolds durable → RunHolds durable run → MayCome durable run event → Takes bytes_of run event
      → HasDrained bytes_of kept old start (record { durable = durable; run = run }) → HasDrained bytes_of kept old start (comes durable run event)
  taken_after durable None event holds h may takes d = absurd takes
  taken_after durable (Some run) event holds h may takes d =
      taken_step durable run event may takes d
      (advanced_on (offers_of bytes_of) old start _ _ _ _ (advances (offers_of bytes_of) old start durable run event may (step_of durable run event holds d.stored may takes) h.0) (to_advanced durable (Some run) d))

  pub taken_all : (state : State) (events : List Event) → IsSound state → MayComeAll state events → TakesAll bytes_of state events → HasDrained bytes_of kept old start state → HasDrained bytes_of kept old start (after state events)
  taken_all state [] sound may takes d = d
  taken_all state (event ∷ events) sound may takes d =
      taken_all (happens state event) events (sound_after state.durable state.run event may.0 sound.durable sound.run) may.1 takes.1
      (taken_after state.durable state.run event sound.durable sound.run may.0 takes.0 d)

  pub taken_alike : (other : List Cid) (state : State) → ((c : Cid) → has c start ≡ has c other) → HasDrained bytes_of kept old start state → HasDrained bytes_of kept old other state
  taken_alike other state same d = record {
    draining = alike (offers_of bytes_of) old start other state.durable (queue_in state.run) same d.draining;
    stored = d.stored;
    taken = d.taken;
    own = d.own;
  }

  pub taken_joins : (mid now : State) → IsSound mid → HasDrained bytes_of kept old start mid → HasDrained bytes_of kept mid.durable (wanted (queue_in mid.run)) now → HasDrained bytes_of kept old start now
  taken_joins mid now sound d e =
      let once = once_in mid.durable mid.run sound.durable sound.run in record {
        draining = joins (offers_of bytes_of) old start mid.durable (queue_in mid.run) now.durable (queue_in now.run) once d.draining e.draining;
        stored = e.stored;
        taken = taken_then old mid.durable now.durable d.draining.grown e.draining.grown (offers_of bytes_of) (queue_in mid.run) (queue_in now.run) once d.taken (record { draining = e.draining; taken = e.taken });
        own = e.own;
      }

  pub taken_closure : (state : State) → IsSound state → IsDrained (offers_of bytes_of) state → HasDrained bytes_of kept old start state → IsClosure (offers_of bytes_of) old start state.durable (wanted_in state.run)
  taken_closure state sound done d = closure_in (offers_of bytes_of) old start state.durable state.run sound.durable sound.run done (to_advanced state.durable state.run d)

  pub taken_so_far : (state : State) → IsSound state → HasDrained bytes_of kept old start state → IsSoFar (offers_of bytes_of) old start state.durable (wanted_in state.run)
  taken_so_far state sound d = so_far_in (offers_of bytes_of) old start state.durable state.run sound.durable sound.run (to_advanced state.durable state.run d)

pub taken_start : (bytes_of : FoundBytes) (kept : List Cid) (state : State) → ((c : Cid) (bytes : List ℕ) → bytes_in state.durable.graph c ≡ Some bytes → bytes_of c ≡ Some bytes)
    → ((c : Cid) → has c kept ≡ true → is_some (bytes_in state.durable.graph c) ≡ true) → HasDrained bytes_of kept state.durable (wanted (queue_in state.run)) state
taken_start bytes_of kept state stored own = put_together bytes_of kept state.durable (wanted (queue_in state.run)) state (advanced_start (offers_of bytes_of) state.durable (queue_in state.run)) stored own
