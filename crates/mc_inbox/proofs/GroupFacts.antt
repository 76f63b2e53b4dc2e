-- What blocks that come in together do.
use Rattle.std.proofs.Common.{◌≡◌, ◌≢◌, ℕ, suc, ◌+◌, ◌≤◌, Bool, true, false, not, cond, List, [], ◌∷◌, ◌++◌, length, Option, Some, None, ◌||◌, sym, refl, ap, ◌∙◌, arith, subst}
use Rattle.std.specs.Prelude.{find}
use Rattle.std.specs.Option.{option_map}
use Rattle.std.specs.List.{list_all, list_any}
use Rattle.std.proofs.lemmas.List.Folds.{list_any-append}
use Rattle.std.proofs.lemmas.Bool.{and_parts, and_from, or_left, or_right, false≢true}
use Rattle.mc_base.specs.declared.cid.Cid.{Cid}
use Rattle.mc_model.specs.declared.block.Stored.{Stored}
use Rattle.mc_model.specs.Draining.{FoundBytes, bytes_in, AllSayRight, TakesAll}
use Rattle.mc_model.specs.Events.{Store, Process, MayRun, MayComeAll}
use Rattle.mc_model.specs.Found.{Offers}
use Rattle.mc_model.specs.Front.{same_cid}
use Rattle.mc_model.specs.Graph.{Vertex, times, has, cids_in, in_graph}
use Rattle.mc_model.specs.Kept.{cids_of}
use Rattle.mc_model.specs.Offer.{is_good}
use Rattle.mc_model.specs.State.{Durable, Running, vertex_of, vertices, IsSound}
use Rattle.mc_model.specs.Wanted.{wanted, others}
use Rattle.mc_model.proofs.Bridge.{all_good}
use Rattle.mc_model.proofs.Counts.{cid_is, cid_itself, times_has, has_times, times_none}
use Rattle.mc_model.proofs.Deliveries.{flight_wanted}
use Rattle.mc_model.proofs.Held.{others_times}
use Rattle.mc_inbox.specs.Groups.{AreOffered, group_of, to_store, store_events, process_events, group_events}

-- a block in flight before a group of others
one_more : (c x : Cid) (flight rest : List Cid) → has x flight ≡ true → times c rest ≤ times c (others flight x) → times c (x ∷ rest) ≤ times c flight
one_more c x flight rest h ih = by_test (same_cid c x) refl
  where
    by_test : (b : Bool) → same_cid c x ≡ b → cond b (1 + times c rest) (times c rest) ≤ times c flight
    by_test true s =
        let o : times c (others flight x) ≡ 0 = others_times x c flight ∙ ap (λ t. cond (not t) (times c flight) 0) s in
        let one : 1 ≤ times c flight = times_has c flight (ap (λ (z : Cid). has z flight) (cid_is c x s) ∙ h) in omega (arith, o, one, ih)
    by_test false s = let o : times c (others flight x) ≡ times c flight = others_times x c flight ∙ ap (λ t. cond (not t) (times c flight) 0) s in omega (arith, o, ih)

once_more : (c x : Cid) (flight rest : List Cid) → times c rest ≤ times c (others flight x) → times c rest ≤ 1 → times c (x ∷ rest) ≤ 1
once_more c x flight rest within ih = by_test (same_cid c x) refl
  where
    by_test : (b : Bool) → same_cid c x ≡ b → cond b (1 + times c rest) (times c rest) ≤ 1
    by_test true s = let o : times c (others flight x) ≡ 0 = others_times x c flight ∙ ap (λ t. cond (not t) (times c flight) 0) s in omega (arith, o, within)
    by_test false s = ih

-- each of a group is in flight, and stands there once
pub group_flight : (flight : List Cid) (items : List Stored) (c : Cid) → times c (cids_of (group_of flight items)) ≤ times c flight
group_flight flight [] c = omega arith
group_flight flight (item ∷ items) c =
    elim (has item.cid flight) as (λ b. has item.cid flight ≡ b → times c (cids_of (cond b (item ∷ group_of (others flight item.cid) items) (group_of flight items))) ≤ times c flight) [
      | true ↦ λ h. one_more c item.cid flight (cids_of (group_of (others flight item.cid) items)) h (group_flight (others flight item.cid) items c)
      | false ↦ λ h. group_flight flight items c
    ] refl

pub group_once : (flight : List Cid) (items : List Stored) (c : Cid) → times c (cids_of (group_of flight items)) ≤ 1
group_once flight [] c = omega arith
group_once flight (item ∷ items) c =
    elim (has item.cid flight) as (λ b. times c (cids_of (cond b (item ∷ group_of (others flight item.cid) items) (group_of flight items))) ≤ 1) [
      | true ↦ once_more c item.cid flight (cids_of (group_of (others flight item.cid) items)) (group_flight (others flight item.cid) items c) (group_once (others flight item.cid) items c)
      | false ↦ group_once flight items c
    ]

pub group_few : (flight : List Cid) (items : List Stored) → length (group_of flight items) ≤ length items
group_few flight [] = omega arith
group_few flight (item ∷ items) =
    elim (has item.cid flight) as (λ b. length (cond b (item ∷ group_of (others flight item.cid) items) (group_of flight items)) ≤ suc (length items)) [
      | true ↦ let a = group_few (others flight item.cid) items in omega arith
      | false ↦ let a = group_few flight items in omega arith
    ]

-- what holds of all that came in holds of those that are taken up, and of those that are stored
pub good_group : (test : Stored → Bool) (flight : List Cid) (items : List Stored) → list_all test items ≡ true → list_all test (group_of flight items) ≡ true
good_group test flight [] e = refl
good_group test flight (item ∷ items) e =
    let parts = and_parts (test item) (list_all test items) e in
    elim (has item.cid flight) as (λ b. list_all test (cond b (item ∷ group_of (others flight item.cid) items) (group_of flight items)) ≡ true) [
      | true ↦ and_from (test item) (list_all test (group_of (others flight item.cid) items)) parts.0 (good_group test (others flight item.cid) items parts.1)
      | false ↦ good_group test flight items parts.1
    ]

pub good_store : (test : Stored → Bool) (graph : List Vertex) (group : List Stored) → list_all test group ≡ true → list_all test (to_store graph group) ≡ true
good_store test graph [] e = refl
good_store test graph (item ∷ group) e =
    let parts = and_parts (test item) (list_all test group) e in
    elim (in_graph graph item.cid) as (λ b. list_all test (cond b (to_store graph group) (item ∷ to_store graph group)) ≡ true) [
      | true ↦ good_store test graph group parts.1
      | false ↦ and_from (test item) (list_all test (to_store graph group)) parts.0 (good_store test graph group parts.1)
    ]

offered_group : (bytes_of : FoundBytes) (flight : List Cid) (items : List Stored) → AreOffered bytes_of items → AreOffered bytes_of (group_of flight items)
offered_group bytes_of flight [] e = tt
offered_group bytes_of flight (item ∷ items) e =
    elim (has item.cid flight) as (λ b. AreOffered bytes_of (cond b (item ∷ group_of (others flight item.cid) items) (group_of flight items))) [
      | true ↦ (e.0, offered_group bytes_of (others flight item.cid) items e.1)
      | false ↦ offered_group bytes_of flight items e.1
    ]

offered_store : (bytes_of : FoundBytes) (graph : List Vertex) (group : List Stored) → AreOffered bytes_of group → AreOffered bytes_of (to_store graph group)
offered_store bytes_of graph [] e = tt
offered_store bytes_of graph (item ∷ group) e =
    elim (in_graph graph item.cid) as (λ b. AreOffered bytes_of (cond b (to_store graph group) (item ∷ to_store graph group))) [
      | true ↦ offered_store bytes_of graph group e.1
      | false ↦ (e.0, offered_store bytes_of graph group e.1)
    ]

-- what is stored of a group is of the group, and isn't stored before
times_more : (c x : Cid) (xs ys : List Cid) → times c xs ≤ times c ys → times c (x ∷ xs) ≤ times c (x ∷ ys)
times_more c x xs ys h = elim (same_cid c x) as (λ b. cond b (1 + times c xs) (times c xs) ≤ cond b (1 + times c ys) (times c ys)) [ true ↦ omega arith | false ↦ h ]

times_less : (c x : Cid) (ys : List Cid) → times c ys ≤ times c (x ∷ ys)
times_less c x ys = elim (same_cid c x) as (λ b. times c ys ≤ cond b (1 + times c ys) (times c ys)) [ true ↦ omega arith | false ↦ omega arith ]

pub store_within : (graph : List Vertex) (group : List Stored) (c : Cid) → times c (cids_of (to_store graph group)) ≤ times c (cids_of group)
store_within graph [] c = omega arith
store_within graph (item ∷ group) c =
    let less = times_less c item.cid (cids_of group) in
    let ih = store_within graph group c in
    elim (in_graph graph item.cid) as (λ b. times c (cids_of (cond b (to_store graph group) (item ∷ to_store graph group))) ≤ times c (item.cid ∷ cids_of group)) [
      | true ↦ omega (arith, less, ih)
      | false ↦ times_more c item.cid (cids_of (to_store graph group)) (cids_of group) ih
    ]

not_first : (c x : Cid) (graph : List Vertex) (xs : List Cid) → in_graph graph c ≡ true → in_graph graph x ≡ false → times c xs ≡ 0 → times c (x ∷ xs) ≡ 0
not_first c x graph xs there new none = by_test (same_cid c x) refl
  where
    by_test : (b : Bool) → same_cid c x ≡ b → cond b (1 + times c xs) (times c xs) ≡ 0
    by_test true s = absurd (false≢true (sym new ∙ (ap (in_graph graph) (sym (cid_is c x s)) ∙ there)))
    by_test false s = none

store_new : (graph : List Vertex) (group : List Stored) (c : Cid) → in_graph graph c ≡ true → times c (cids_of (to_store graph group)) ≡ 0
store_new graph [] c there = refl
store_new graph (item ∷ group) c there =
    let ih = store_new graph group c there in
    elim (in_graph graph item.cid) as (λ b. in_graph graph item.cid ≡ b → times c (cids_of (cond b (to_store graph group) (item ∷ to_store graph group))) ≡ 0) [
      | true ↦ λ e. ih
      | false ↦ λ e. not_first c item.cid graph (cids_of (to_store graph group)) there e ih
    ] refl

-- and then all of the group is stored
cids_vertices : (stored : List Stored) → cids_in (vertices stored) ≡ cids_of stored
cids_vertices [] = refl
cids_vertices (s ∷ stored) = ap (λ l. s.cid ∷ l) (cids_vertices stored)

graph_has : (graph : List Vertex) (c : Cid) → in_graph graph c ≡ has c (cids_in graph)
graph_has [] c = refl
graph_has (v ∷ graph) c = ap (λ rest. same_cid c v.cid || rest) (graph_has graph c)

or_middle : (a s b : Bool) → (a || b) ≡ true → (a || (s || b)) ≡ true
or_middle true s b e = refl
or_middle false s b e = or_right s b e

pub all_stored : (graph : List Vertex) (group : List Stored) (c : Cid) → has c (cids_of group) ≡ true → (in_graph graph c || has c (cids_of (to_store graph group))) ≡ true
all_stored graph [] c e = absurd (false≢true e)
all_stored graph (item ∷ group) c e = by_test (same_cid c item.cid) refl e (all_stored graph group c)
  where
    first : (b : Bool) → in_graph graph item.cid ≡ b → same_cid c item.cid ≡ true → (in_graph graph c || has c (cids_of (cond b (to_store graph group) (item ∷ to_store graph group)))) ≡ true
    first true t s = or_left (in_graph graph c) _ (ap (in_graph graph) (cid_is c item.cid s) ∙ t)
    first false t s = or_right (in_graph graph c) _ (or_left (same_cid c item.cid) _ s)

    later : (b : Bool) → (in_graph graph c || has c (cids_of (to_store graph group))) ≡ true → (in_graph graph c || has c (cids_of (cond b (to_store graph group) (item ∷ to_store graph group)))) ≡ true
    later true h = h
    later false h = or_middle (in_graph graph c) (same_cid c item.cid) _ h

    by_test : (b : Bool) → same_cid c item.cid ≡ b → (b || has c (cids_of group)) ≡ true → (has c (cids_of group) ≡ true → (in_graph graph c || has c (cids_of (to_store graph group))) ≡ true)
        → (in_graph graph c || has c (cids_of (to_store graph (item ∷ group)))) ≡ true
    by_test true s h ih = first (in_graph graph item.cid) refl s
    by_test false s h ih = later (in_graph graph item.cid) (ih h)

module _ (durable : Durable) (run : Running) (sound : IsSound (record { durable = durable; run = Some run })) where
  -- what may be stored
  pub may_store : (group : List Stored) → list_all (λ (item : Stored). is_good item.cid item.bytes) group ≡ true → ((c : Cid) → times c (cids_of group) ≤ 1) → MayRun durable run (Store (vertices (to_store durable.graph group)))
  may_store group good once = (
    all_good (to_store durable.graph group) (good_store (λ (item : Stored). is_good item.cid item.bytes) durable.graph group good),
    λ c. let is : times c (cids_in (vertices (to_store durable.graph group))) ≡ times c (cids_of (to_store durable.graph group)) = ap (times c) (cids_vertices (to_store durable.graph group)) in
        by_test c is (in_graph durable.graph c) refl,
  )
    where
      by_test : (c : Cid) → times c (cids_in (vertices (to_store durable.graph group))) ≡ times c (cids_of (to_store durable.graph group)) → (b : Bool) → in_graph durable.graph c ≡ b
          → times c (cids_in durable.graph) + times c (cids_in (vertices (to_store durable.graph group))) ≤ 1
      by_test c is true e = let n = store_new durable.graph group c e in let s = sound.durable.stored_once c in omega (arith, is, n, s)
      by_test c is false e =
          let n : times c (cids_in durable.graph) ≡ 0 = times_none c (cids_in durable.graph) (sym (graph_has durable.graph c) ∙ e) in
          let w = store_within durable.graph group c in let o = once c in omega (arith, is, n, w, o)

  -- what may be processed
  pub may_process : (graph : List Vertex) (cids : List Cid) → cids ≢ [] → ((c : Cid) → times c cids ≤ 1) → ((c : Cid) → times c cids ≤ times c run.queue.flight) → ((c : Cid) → has c cids ≡ true → in_graph graph c ≡ true)
      → MayRun (record durable { graph = graph }) run (Process cids)
  may_process graph cids some once within stored = (some, (λ c. by_test c (has c cids) refl), stored)
    where
      by_test : (c : Cid) (b : Bool) → has c cids ≡ b → times c durable.order + times c cids ≤ 1
      by_test c true e =
          let t : 1 ≤ times c cids = times_has c cids e in let w = within c in
          let f : has c run.queue.flight ≡ true = has_times c run.queue.flight (omega (arith, t, w)) in
          let q : 1 ≤ times c (wanted run.queue) = times_has c (wanted run.queue) (flight_wanted run.queue c f) in
          let h = sound.run.0 c in let o = once c in omega (arith, q, h, o)
      by_test c false e = let n : times c cids ≡ 0 = times_none c cids e in let o = sound.durable.order_once c in omega (arith, n, o)

  may_all : (stores : List Stored) (cids : List Cid) → MayRun durable run (Store (vertices stores)) → ((graph : List Vertex) → ((c : Cid) → has c cids ≡ true → in_graph graph c ≡ true) → cids ≢ [] → MayRun (record durable { graph = graph }) run (Process cids))
      → ((c : Cid) → has c cids ≡ true → (in_graph durable.graph c || has c (cids_of stores)) ≡ true) → MayComeAll (record { durable = durable; run = Some run }) (store_events stores ++ process_events cids)
  may_all [] [] s p there = tt
  may_all [] (c ∷ cids) s p there = (p durable.graph (λ d e. no_or (in_graph durable.graph d) (there d e)) (λ none. absurd (cc)), tt)
    where
      no_or : (b : Bool) → (b || false) ≡ true → b ≡ true
      no_or true e = refl
      no_or false e = e
  may_all (x ∷ stores) [] s p there = (s, tt)
  may_all (x ∷ stores) (c ∷ cids) s p there = (
    s,
    (
      p (durable.graph ++ vertices (x ∷ stores))
          (λ d e. list_any-append (λ (vertex : Vertex). same_cid d vertex.cid) durable.graph (vertices (x ∷ stores)) ∙ ap (λ b. in_graph durable.graph d || b) (graph_has (vertices (x ∷ stores)) d ∙ ap (has d) (cids_vertices (x ∷ stores))) ∙ there d e)
          (λ none. absurd (cc)),
      tt,
    ),
  )

  pub group_may : (items : List Stored) → list_all (λ (item : Stored). is_good item.cid item.bytes) items ≡ true → MayComeAll (record { durable = durable; run = Some run }) (group_events durable.graph (group_of run.queue.flight items))
  group_may items good =
      let group : List Stored = group_of run.queue.flight items in
      may_all (to_store durable.graph group) (cids_of group)
      (may_store group (good_group (λ (item : Stored). is_good item.cid item.bytes) run.queue.flight items good) (group_once run.queue.flight items))
      (λ graph stored some. may_process graph (cids_of group) some (group_once run.queue.flight items) (group_flight run.queue.flight items) stored)
      (all_stored durable.graph group)

module _ (bytes_of : FoundBytes) (durable : Durable) (run : Running) where
  wanted_group : (items : List Stored) (c : Cid) → has c (cids_of (group_of run.queue.flight items)) ≡ true → has c (wanted run.queue) ≡ true
  wanted_group items c e =
      let t : 1 ≤ times c (cids_of (group_of run.queue.flight items)) = times_has c (cids_of (group_of run.queue.flight items)) e in let w = group_flight run.queue.flight items c in
      flight_wanted run.queue c (has_times c run.queue.flight (omega (arith, t, w)))

  -- what is stored has the bytes that are found
  found_stored : (stores : List Stored) → AreOffered bytes_of stores → (c : Cid) (bytes : List ℕ) → bytes_in (vertices stores) c ≡ Some bytes → (has c (cids_of stores) ≡ true) × (bytes_of c ≡ Some bytes)
  found_stored [] offered c bytes e = absurd (cc)
  found_stored (x ∷ stores) offered c bytes e =
      elim (same_cid c x.cid) as (λ t. same_cid c x.cid ≡ t → option_map (λ (vertex : Vertex). vertex.bytes) (cond t (Some (vertex_of x)) (find (λ (vertex : Vertex). same_cid c vertex.cid) (vertices stores))) ≡ Some bytes
      → ((t || has c (cids_of stores)) ≡ true) × (bytes_of c ≡ Some bytes)) [
        | true ↦ λ s h. (refl, ap bytes_of (cid_is c x.cid s) ∙ offered.0 ∙ h)
        | false ↦ λ s h. found_stored stores offered.1 c bytes h
      ] refl e

  takes_all : (stores : List Stored) (cids : List Cid) → ((c : Cid) (bytes : List ℕ) → bytes_in (vertices stores) c ≡ Some bytes → (has c (wanted run.queue) ≡ true) × (bytes_of c ≡ Some bytes)) → ((c : Cid) → has c cids ≡ true → has c (wanted run.queue) ≡ true)
      → TakesAll bytes_of (record { durable = durable; run = Some run }) (store_events stores ++ process_events cids)
  takes_all [] [] s p = tt
  takes_all [] (c ∷ cids) s p = (p, tt)
  takes_all (x ∷ stores) [] s p = (s, tt)
  takes_all (x ∷ stores) (c ∷ cids) s p = (s, (p, tt))

  pub group_takes : (items : List Stored) → AreOffered bytes_of items → TakesAll bytes_of (record { durable = durable; run = Some run }) (group_events durable.graph (group_of run.queue.flight items))
  group_takes items offered =
      let group : List Stored = group_of run.queue.flight items in
      let stores : List Stored = to_store durable.graph group in
      takes_all stores (cids_of group)
      (λ c bytes e. let f = found_stored stores (offered_store bytes_of durable.graph group (offered_group bytes_of run.queue.flight items offered)) c bytes e in
      let t : 1 ≤ times c (cids_of stores) = times_has c (cids_of stores) f.0 in let w = store_within durable.graph group c in
      (wanted_group items c (has_times c (cids_of group) (omega (arith, t, w))), f.1))
      (wanted_group items)

pub group_says : (found : Offers) (durable : Durable) (group : List Stored) → AllSayRight found (group_events durable.graph group)
group_says found durable group = says (to_store durable.graph group) (cids_of group)
  where
    says : (stores : List Stored) (cids : List Cid) → AllSayRight found (store_events stores ++ process_events cids)
    says [] [] = tt
    says [] (c ∷ cids) = (tt, tt)
    says (x ∷ stores) [] = (tt, tt)
    says (x ∷ stores) (c ∷ cids) = (tt, (tt, tt))
