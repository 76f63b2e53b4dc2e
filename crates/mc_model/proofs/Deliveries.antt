-- The events of a delivery may come, take no more than a drain may, and say what is right.
use Rattle.std.proofs.Common.{◌≡◌, ℕ, ◌+◌, ◌≤◌, Bool, true, false, not, cond, List, [], ◌∷◌, ◌++◌, Option, Some, None, ◌||◌, sym, refl, ap, ◌∙◌, arith}
use Rattle.std.specs.Prelude.{Result, Ok, Err}
use Rattle.std.specs.Option.{option_map}
use Rattle.std.specs.Result.{is_ok}
use Rattle.std.proofs.lemmas.List.Folds.{list_any-append}
use Rattle.std.proofs.lemmas.List.Elements.{filter_agree}
use Rattle.std.proofs.lemmas.Bool.{or_left, or_right}
use Rattle.std.proofs.Math.Bool.{or-false}
use Rattle.mc_base.specs.declared.cid.Cid.{Cid}
use Rattle.mc_model.specs.declared.block.Block.{Block}
use Rattle.mc_model.specs.Draining.{FoundBytes, offers_of, queue_in, bytes_in, TakesAll, AllSayRight, IsFoundFor, taken_up, delivery}
use Rattle.mc_model.specs.Events.{Store, Process, MayRun, MayComeAll, with_blocks, processed_queue, after}
use Rattle.mc_model.specs.Found.{found_as, found_reading}
use Rattle.mc_model.specs.Front.{same_cid}
use Rattle.mc_model.specs.Graph.{Vertex, times, has, cids_in, in_graph, all_links}
use Rattle.mc_model.specs.Offer.{Damage, offer}
use Rattle.mc_model.specs.State.{Durable, Running, vertex_of, IsSound}
use Rattle.mc_model.specs.Wanted.{Queue, bad_cids, wanted, to_waiting, want, want_all, others, without}
use Rattle.mc_model.proofs.Counts.{cid_is, cid_itself, times_none, times-one, has-append}
use Rattle.mc_model.proofs.Drain.{apart, false_of, one_is}

pub flight_wanted : (q : Queue) (c : Cid) → has c q.flight ≡ true → has c (wanted q) ≡ true
flight_wanted q c e =
    has-append c q.waiting (q.flight ++ (q.missing ++ bad_cids q.bad))
    ∙ or_right (has c q.waiting) _ (has-append c q.flight (q.missing ++ bad_cids q.bad) ∙ or_left _ (has c (q.missing ++ bad_cids q.bad)) e)

graph_has : (graph : List Vertex) (c : Cid) → in_graph graph c ≡ has c (cids_in graph)
graph_has [] c = refl
graph_has (v ∷ graph) c = ap (λ rest. same_cid c v.cid || rest) (graph_has graph c)

-- one that isn't in the list may come to it
one_more : (xs : List Cid) (c : Cid) → ((d : Cid) → times d xs ≤ 1) → has c xs ≡ false → (d : Cid) → times d xs + times d (c ∷ []) ≤ 1
one_more xs c once new d = by_test (same_cid d c) refl
  where
    by_test : (b : Bool) → same_cid d c ≡ b → times d xs + times d (c ∷ []) ≤ 1
    by_test true s =
        let none : times d xs ≡ 0 = ap (λ (z : Cid). times z xs) (cid_is d c s) ∙ times_none c xs new in
        omega (arith, none, times-one d c, ap (λ (t : Bool). cond {A = ℕ} t 1 0) s)
    by_test false s = omega (arith, once d, times-one d c, ap (λ (t : Bool). cond {A = ℕ} t 1 0) s)

module _ (durable : Durable) (run : Running) (c : Cid) (sound : IsSound (record { durable = durable; run = Some run })) (flight : has c run.queue.flight ≡ true) where
  -- a stored block in flight may be processed
  may_process : (graph : List Vertex) → in_graph graph c ≡ true → MayRun (record durable { graph = graph }) run (Process (c ∷ []))
  may_process graph e = (
    λ none. absurd (cc),
    one_more durable.order c sound.durable.order_once (false_of c durable.order (apart durable.order run.queue sound.run.0 c (flight_wanted run.queue c flight))),
    λ d k. ap (in_graph graph) (one_is d c k) ∙ e,
  )

  may_store : (bytes : List ℕ) (block : Block) → in_graph durable.graph c ≡ false → offer c bytes ≡ Ok block → MayRun durable run (Store (vertex_of (record { cid = c; bytes = bytes }) ∷ []))
  may_store bytes block new e = (
    ((ap is_ok e, refl), tt),
    one_more (cids_in durable.graph) c sound.durable.stored_once (sym (graph_has durable.graph c) ∙ new),
  )

  may_up : (b : Bool) (bytes : List ℕ) (reading : Result Block Damage) → in_graph durable.graph c ≡ b → offer c bytes ≡ reading
      → MayComeAll (record { durable = durable; run = Some run }) (taken_up b c bytes reading)
  may_up b bytes (Err damage) there e = (flight, tt)
  may_up true bytes (Ok block) there e = (may_process durable.graph there, tt)
  may_up false bytes (Ok block) there e = (
    may_store bytes block there e,
    (
      may_process (durable.graph ++ vertex_of (record { cid = c; bytes = bytes }) ∷ [])
          (list_any-append (λ (vertex : Vertex). same_cid c vertex.cid) durable.graph _ ∙ or_right (in_graph durable.graph c) _ (or_left (same_cid c c) false (cid_itself c))),
      tt,
    ),
  )

  pub delivery_may : (found : Option (List ℕ)) → MayComeAll (record { durable = durable; run = Some run }) (delivery durable.graph c found)
  delivery_may None = (flight, tt)
  delivery_may (Some bytes) = may_up (in_graph durable.graph c) bytes (offer c bytes) refl refl

module _ (bytes_of : FoundBytes) (durable : Durable) (run : Running) (c : Cid) (flight : has c run.queue.flight ≡ true) where
  wanted_one : (d : Cid) → has d (c ∷ []) ≡ true → has d (wanted run.queue) ≡ true
  wanted_one d k = ap (λ (z : Cid). has z (wanted run.queue)) (one_is d c k) ∙ flight_wanted run.queue c flight

  -- the one block that is stored
  one_stored : (bytes : List ℕ) → bytes_of c ≡ Some bytes → (d : Cid) (others : List ℕ) → bytes_in (vertex_of (record { cid = c; bytes = bytes }) ∷ []) d ≡ Some others
      → (has d (wanted run.queue) ≡ true) × (bytes_of d ≡ Some others)
  one_stored bytes is d others e =
      elim (same_cid d c) as (λ t. same_cid d c ≡ t → option_map (λ (vertex : Vertex). vertex.bytes) (cond t (Some (vertex_of (record { cid = c; bytes = bytes }))) None) ≡ Some others
      → (has d (wanted run.queue) ≡ true) × (bytes_of d ≡ Some others)) [
        | true ↦ λ s h. (wanted_one d (or_left (same_cid d c) false s), ap bytes_of (cid_is d c s) ∙ is ∙ h)
        | false ↦ λ s h. absurd (cc)
      ] refl e

  takes_up : (b : Bool) (bytes : List ℕ) (reading : Result Block Damage) → bytes_of c ≡ Some bytes → TakesAll bytes_of (record { durable = durable; run = Some run }) (taken_up b c bytes reading)
  takes_up b bytes (Err damage) is = (tt, tt)
  takes_up true bytes (Ok block) is = (wanted_one, tt)
  takes_up false bytes (Ok block) is = (one_stored bytes is, (wanted_one, tt))

  pub delivery_takes : (found : Option (List ℕ)) → IsFoundFor bytes_of c found → TakesAll bytes_of (record { durable = durable; run = Some run }) (delivery durable.graph c found)
  delivery_takes None is = (tt, tt)
  delivery_takes (Some bytes) is = takes_up (in_graph durable.graph c) bytes (offer c bytes) is

says_up : (bytes_of : FoundBytes) (c : Cid) (b : Bool) (bytes : List ℕ) (reading : Result Block Damage) → bytes_of c ≡ Some bytes → offer c bytes ≡ reading → AllSayRight (offers_of bytes_of) (taken_up b c bytes reading)
says_up bytes_of c b bytes (Err damage) is e = (ap (found_as c) is ∙ ap found_reading e, tt)
says_up bytes_of c true bytes (Ok block) is e = (tt, tt)
says_up bytes_of c false bytes (Ok block) is e = (tt, (tt, tt))

pub delivery_says : (bytes_of : FoundBytes) (durable : Durable) (c : Cid) (found : Option (List ℕ)) → bytes_of c ≡ found → AllSayRight (offers_of bytes_of) (delivery durable.graph c found)
delivery_says bytes_of durable c None is = (ap (found_as c) is, tt)
delivery_says bytes_of durable c (Some bytes) is = says_up bytes_of c (in_graph durable.graph c) bytes (offer c bytes) is refl

-- what comes out of flight

want_flight : (order : List Cid) (q : Queue) (cids : List Cid) → (want_all order q cids).flight ≡ q.flight
want_flight order q [] = refl
want_flight order q (c ∷ cids) =
    want_flight order (want order q c) cids
    ∙ elim (has c order || has c (wanted q)) as (λ t. (cond t q (to_waiting q c)).flight ≡ q.flight) [ true ↦ refl | false ↦ refl ]

process_flight : (durable : Durable) (q : Queue) (c : Cid) → (processed_queue durable q (c ∷ [])).flight ≡ others q.flight c
process_flight durable q c =
    want_flight (durable.order ++ c ∷ []) (without q (c ∷ [])) (all_links durable.graph (c ∷ []))
    ∙ filter_agree (λ d. not (has d (c ∷ []))) (λ d. not (same_cid d c)) (λ d. ap not (or-false (same_cid d c))) q.flight

flight_up : (durable : Durable) (run : Running) (c : Cid) (b : Bool) (bytes : List ℕ) (reading : Result Block Damage)
    → (queue_in (after (record { durable = durable; run = Some run }) (taken_up b c bytes reading)).run).flight ≡ others run.queue.flight c
flight_up durable run c b bytes (Err damage) = refl
flight_up durable run c true bytes (Ok block) = process_flight durable run.queue c
flight_up durable run c false bytes (Ok block) = process_flight (with_blocks durable (vertex_of (record { cid = c; bytes = bytes }) ∷ [])) run.queue c

pub delivery_flight : (durable : Durable) (run : Running) (c : Cid) (found : Option (List ℕ))
    → (queue_in (after (record { durable = durable; run = Some run }) (delivery durable.graph c found)).run).flight ≡ others run.queue.flight c
delivery_flight durable run c None = refl
delivery_flight durable run c (Some bytes) = flight_up durable run c (in_graph durable.graph c) bytes (offer c bytes)
