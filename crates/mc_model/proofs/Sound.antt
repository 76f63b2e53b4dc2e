-- Each event keeps a sound state sound.
use Rattle.std.proofs.Common.{◌≡◌, ℕ, ◌+◌, ◌≤◌, ◌<◌, Bool, true, false, not, cond, List, [], ◌∷◌, ◌++◌, Option, Some, None, sym, refl, ap, ◌∙◌, inl, inr, ◌⊎◌, arith, length}
use Rattle.std.specs.Prelude.{take, drop}
use Rattle.std.specs.List.{list_all}
use Rattle.std.proofs.lemmas.List.{take-append-le, drop-append-le, take-append-drop, length-append, append_assoc}
use Rattle.std.proofs.Math.Seq.{take-add, drop-length}
use Rattle.std.proofs.lemmas.Bool.{not-false, or_right, or_left, or_cases}
use Rattle.mc_base.specs.declared.cid.Cid.{Cid}
use Rattle.mc_model.specs.Events.{Event, Store, Process, Hear, Want, GiveBack, Missing, Bad, Requeue, WalkBegin, WalkVisit, WalkEnd, Batch, Stop, Open, IsVisiting, IsVisited, MayRun, MayCome, processed_mark, ended_mark, visited, runs, comes, happens, MayComeAll, StaysSound}
use Rattle.mc_model.specs.Graph.{Vertex, times, has, cids_in, all_links, no_gaps}
use Rattle.mc_model.specs.State.{Durable, nothing_durable, Running, State, AllGood, DurableHolds, IsLinked, walked, WholeHolds, RunHolds, IsSound}
use Rattle.mc_model.specs.Wanted.{Queue, no_queue, IsOnce, want_all, start_first, give_back, to_missing, to_bad, requeue, without}
use Rattle.mc_model.proofs.Counts.{times_has, times-append, has-append, all_has, links-append, links_more, in_graph_more, cids_in-append}
use Rattle.mc_model.proofs.Held.{Grows, grows_want_all, all_wanted, grows_same, same_give_back, same_to_missing, same_to_bad, same_requeue, same_start, grows_hear_all, taken}

-- links of parts

link_cases : (graph : List Vertex) (xs ys : List Cid) (c : Cid) → has c (all_links graph (xs ++ ys)) ≡ true → (has c (all_links graph xs) ≡ true) ⊎ (has c (all_links graph ys) ≡ true)
link_cases graph xs ys c e = or_cases _ _ (sym (has-append c (all_links graph xs) (all_links graph ys)) ∙ sym (ap (has c) (links-append graph xs ys)) ∙ e)

in_part : (order : List Cid) (v n : ℕ) (c : Cid) → has c (walked order n v) ≡ true → has c order ≡ true
in_part order v n c e =
    elim (or_cases (has c (take v order)) (has c (drop n order)) (sym (has-append c (take v order) (drop n order)) ∙ e)) [
      | inl h ↦ sym (ap (has c) (take-append-drop v order)) ∙ has-append c (take v order) (drop v order) ∙ or_left _ (has c (drop v order)) h
      | inr h ↦ sym (ap (has c) (take-append-drop n order)) ∙ has-append c (take n order) (drop n order) ∙ or_right (has c (take n order)) _ h
    ]

-- where only the wanted set grows

whole_grows : (durable : Durable) (q r : Queue) (walk : Option (ℕ × ℕ)) (whole : Bool) → Grows durable.order q r → WholeHolds durable q walk whole → WholeHolds durable r walk whole
whole_grows durable q r walk true g h = (h.0, (λ c e. omega (arith, h.1 c e, g.more c)), h.2)
whole_grows durable q r None false g h = (h.0, tt)
whole_grows durable q r (Some (n, v)) false g h = (h.0, (h.1.0, h.1.1, λ c e. omega (arith, h.1.2 c e, g.more c)))

run_grows : (durable : Durable) (run : Running) (r : Queue) → Grows durable.order run.queue r → RunHolds durable (Some run) → RunHolds durable (Some (record run { queue = r }))
run_grows durable run r g h = (g.once h.0, whole_grows durable run.queue r run.walk run.whole g h.1)

-- Store

pub all_good-append : (graph more : List Vertex) → AllGood graph → AllGood more → AllGood (graph ++ more)
all_good-append [] more h k = k
all_good-append (v ∷ graph) more h k = (h.0, all_good-append graph more h.1 k)

pub stored_once : (graph more : List Vertex) → ((c : Cid) → times c (cids_in graph) + times c (cids_in more) ≤ 1) → (c : Cid) → times c (cids_in (graph ++ more)) ≤ 1
stored_once graph more h c = omega (arith, h c, times-append c (cids_in graph) (cids_in more), ap (times c) (cids_in-append graph more))

store_whole : (durable : Durable) (blocks : List Vertex) (q : Queue) (walk : Option (ℕ × ℕ)) (whole : Bool) → DurableHolds durable → WholeHolds durable q walk whole → WholeHolds (record durable { graph = durable.graph ++ blocks }) q walk whole
store_whole durable blocks q walk true k h =
    let same : all_links (durable.graph ++ blocks) durable.order ≡ all_links durable.graph durable.order = links_more durable.graph blocks durable.order k.stored in
    (h.0, (λ c e. h.1 c (sym (ap (has c) same) ∙ e)), h.2 ∙ sym (ap (λ l. not (list_all (λ c. has c durable.order) l)) same))
store_whole durable blocks q None false k h = (h.0, tt)
store_whole durable blocks q (Some (n, v)) false k h =
    let same : all_links (durable.graph ++ blocks) (walked durable.order n v) ≡ all_links durable.graph (walked durable.order n v) = links_more durable.graph blocks (walked durable.order n v) (λ c e. k.stored c (in_part durable.order v n c e)) in
    (h.0, (h.1.0, h.1.1, λ c e. h.1.2 c (sym (ap (has c) same) ∙ e)))

-- Process

process_linked : (durable : Durable) (cids : List Cid) (q : Queue) (mark : Bool) (part : List Cid) → IsOnce durable.order q → ((c : Cid) → times c durable.order + times c cids ≤ 1) → IsLinked durable q part
    → IsLinked (record { graph = durable.graph; order = durable.order ++ cids; mark = mark }) (want_all (durable.order ++ cids) (without q cids) (all_links durable.graph cids)) (part ++ cids)
process_linked durable cids q mark part once apart old c e =
    let t = taken durable.order q cids once apart in
    elim (link_cases durable.graph part cids c e) [
      | inl h ↦ omega (arith, old c h, t.more c, (grows_want_all (durable.order ++ cids) (without q cids) (all_links durable.graph cids)).more c)
      | inr h ↦ all_wanted (durable.order ++ cids) (without q cids) (all_links durable.graph cids) c h
    ]

walked_on : (order cids : List Cid) (n v : ℕ) → v ≤ n → n ≤ length order → walked (order ++ cids) n v ≡ walked order n v ++ cids
walked_on order cids n v low high =
    ap (λ front. front ++ drop n (order ++ cids)) (take-append-le v order cids (omega (arith, low, high)))
    ∙ ap (λ rest. take v order ++ rest) (drop-append-le n order cids high)
    ∙ sym (append_assoc (take v order) (drop n order) cids)

process_whole : (durable : Durable) (cids : List Cid) (q : Queue) (walk : Option (ℕ × ℕ)) (whole : Bool) → IsOnce durable.order q → ((c : Cid) → times c durable.order + times c cids ≤ 1) → WholeHolds durable q walk whole
    → WholeHolds (record { graph = durable.graph; order = durable.order ++ cids; mark = processed_mark whole durable (durable.order ++ cids) }) (want_all (durable.order ++ cids) (without q cids) (all_links durable.graph cids)) walk whole
process_whole durable cids q walk true once apart h = (h.0, process_linked durable cids q durable.mark durable.order once apart h.1, refl)
process_whole durable cids q None false once apart h = (h.0, tt)
process_whole durable cids q (Some (n, v)) false once apart h = (
  h.0,
  (
    h.1.0,
    omega (arith, h.1.1, length-append durable.order cids),
    λ c e. process_linked durable cids q durable.mark (walked durable.order n v) once apart h.1.2 c (sym (ap (λ part. has c (all_links durable.graph part)) (walked_on durable.order cids n v h.1.0 h.1.1)) ∙ e),
  ),
)

-- the walk

visit_whole : (durable : Durable) (q : Queue) (n v : ℕ) (whole : Bool) → v < n → WholeHolds durable q (Some (n, v)) whole
    → WholeHolds durable (want_all durable.order q (all_links durable.graph (take 1 (drop v durable.order)))) (Some (n, v + 1)) whole
visit_whole durable q n v true less h = absurd (let no : Some (n, v) ≡ None = h.0 in cc)
visit_whole durable q n v false less h = (h.0, (omega (arith, less), h.1.1, linked))
  where
    linked : IsLinked durable (want_all durable.order q (all_links durable.graph (take 1 (drop v durable.order)))) (walked durable.order n (v + 1))
    linked c e =
        let more = (grows_want_all durable.order q (all_links durable.graph (take 1 (drop v durable.order)))).more c in
        elim (link_cases durable.graph (take (v + 1) durable.order) (drop n durable.order) c e) [
          | inl k ↦ elim (link_cases durable.graph (take v durable.order) (take 1 (drop v durable.order)) c (sym (ap (λ part. has c (all_links durable.graph part)) (take-add v 1 durable.order)) ∙ k)) [
            | inl l ↦ omega (arith, more, h.1.2 c (front l))
            | inr l ↦ all_wanted durable.order q (all_links durable.graph (take 1 (drop v durable.order))) c l
          ]
          | inr k ↦ omega (arith, more, h.1.2 c (rest k))
        ]
      where
        front : has c (all_links durable.graph (take v durable.order)) ≡ true → has c (all_links durable.graph (walked durable.order n v)) ≡ true
        front l = ap (has c) (links-append durable.graph (take v durable.order) (drop n durable.order)) ∙ has-append c _ (all_links durable.graph (drop n durable.order)) ∙ or_left _ _ l

        rest : has c (all_links durable.graph (drop n durable.order)) ≡ true → has c (all_links durable.graph (walked durable.order n v)) ≡ true
        rest l = ap (has c) (links-append durable.graph (take v durable.order) (drop n durable.order)) ∙ has-append c (all_links durable.graph (take v durable.order)) _ ∙ or_right (has c (all_links durable.graph (take v durable.order))) _ l

visit_sound : (durable : Durable) (run : Running) (walk : Option (ℕ × ℕ)) → DurableHolds durable → IsVisiting walk → IsOnce durable.order run.queue → WholeHolds durable run.queue walk run.whole → IsSound (visited durable run walk)
visit_sound durable run None k may once h = absurd may
visit_sound durable run (Some (n, v)) k may once h =
    record { durable = k; run = ((grows_want_all durable.order run.queue (all_links durable.graph (take 1 (drop v durable.order)))).once once, visit_whole durable run.queue n v run.whole may h) }

end_mark : (full mark : Bool) → mark ≡ true → cond full false mark ≡ not full
end_mark true mark e = refl
end_mark false mark e = e

end_whole : (durable : Durable) (q : Queue) (walk : Option (ℕ × ℕ)) (whole : Bool) → IsVisited walk → WholeHolds durable q walk whole
    → WholeHolds (record durable { mark = ended_mark durable }) q None true
end_whole durable q None whole may h = absurd may
end_whole durable q (Some (n, v)) true may h = absurd (let no : Some (n, v) ≡ None = h.0 in cc)
end_whole durable q (Some (n, v)) false may h =
    (refl, (λ c e. h.1.2 c (ap (λ part. has c (all_links durable.graph part)) (ap (λ z. take z durable.order ++ drop n durable.order) may ∙ take-append-drop n durable.order) ∙ e)), end_mark (no_gaps durable.graph durable.order) durable.mark h.0)

begin_whole : (durable : Durable) (q : Queue) (walk : Option (ℕ × ℕ)) (whole : Bool) → whole ≡ false → WholeHolds durable q walk whole → WholeHolds durable q (Some (length durable.order, 0)) whole
begin_whole durable q walk true may h = absurd (cc)
begin_whole durable q walk false may h =
    (h.0, (omega arith, omega arith, λ c e. absurd (let no : false ≡ true = sym (ap (λ part. has c (all_links durable.graph part)) (drop-length durable.order)) ∙ e in cc)))

-- Stop and Open

stop_whole : (durable : Durable) (q : Queue) (walk : Option (ℕ × ℕ)) (whole : Bool) → WholeHolds durable q walk whole → durable.mark ≡ false → no_gaps durable.graph durable.order ≡ true
stop_whole durable q walk true h e = not-false (no_gaps durable.graph durable.order) (sym h.2 ∙ e)
stop_whole durable q walk false h e = absurd (let no : true ≡ false = sym h.0 ∙ e in cc)

open_whole : (durable : Durable) (mark : Bool) → durable.mark ≡ mark → (durable.mark ≡ false → no_gaps durable.graph durable.order ≡ true) → WholeHolds durable no_queue None (not mark)
open_whole durable true e h = (e, tt)
open_whole durable false e h =
    (refl, (λ c l. omega (arith, times_has c durable.order (all_has (λ d. has d durable.order) (all_links durable.graph durable.order) (h e) c l))), e ∙ sym (ap not (h e)))

-- all of them

run_sound : (durable : Durable) (run : Running) (event : Event) → MayRun durable run event → DurableHolds durable → RunHolds durable (Some run) → IsSound (runs durable run event)
run_sound durable run (Store blocks) may k h =
    record { durable = record { good = all_good-append durable.graph blocks k.good may.0; stored_once = stored_once durable.graph blocks may.1; order_once = k.order_once; stored = λ c e. in_graph_more durable.graph blocks c (k.stored c e) }; run = (h.0, store_whole durable blocks run.queue run.walk run.whole k h.1) }
run_sound durable run (Process cids) may k h =
    record {
      durable = record {
        good = k.good;
        stored_once = k.stored_once;
        order_once = λ c. omega (arith, times-append c durable.order cids, may.1 c);
        stored = λ c e. elim (or_cases (has c durable.order) (has c cids) (sym (has-append c durable.order cids) ∙ e)) [ inl l ↦ k.stored c l | inr l ↦ may.2 c l ];
      };
      run = (
        (grows_want_all (durable.order ++ cids) (without run.queue cids) (all_links durable.graph cids)).once (taken durable.order run.queue cids h.0 may.1).once,
        process_whole durable cids run.queue run.walk run.whole h.0 may.1 h.1,
      );
    }
run_sound durable run (Hear cids) may k h = record { durable = k; run = run_grows durable run _ (grows_hear_all durable.order run.queue cids h.0) h }
run_sound durable run Want may k h = record { durable = k; run = run_grows durable run _ (grows_same durable.order run.queue (start_first run.queue run.queue.waiting) (same_start run.queue)) h }
run_sound durable run (GiveBack c) may k h = record { durable = k; run = run_grows durable run _ (grows_same durable.order run.queue (give_back run.queue c) (same_give_back durable.order run.queue c h.0 may)) h }
run_sound durable run (Missing c) may k h = record { durable = k; run = run_grows durable run _ (grows_same durable.order run.queue (to_missing run.queue c) (same_to_missing durable.order run.queue c h.0 may)) h }
run_sound durable run (Bad c damage) may k h = record { durable = k; run = run_grows durable run _ (grows_same durable.order run.queue (to_bad run.queue c damage) (same_to_bad durable.order run.queue c damage h.0 may)) h }
run_sound durable run Requeue may k h = record { durable = k; run = run_grows durable run _ (grows_same durable.order run.queue (requeue run.queue) (same_requeue run.queue)) h }
run_sound durable run WalkBegin may k h = record { durable = k; run = (h.0, begin_whole durable run.queue run.walk run.whole may.0 h.1) }
run_sound durable run WalkVisit may k h = visit_sound durable run run.walk k may h.0 h.1
run_sound durable run WalkEnd may k h =
    record { durable = record { good = k.good; stored_once = k.stored_once; order_once = k.order_once; stored = k.stored }; run = (h.0, end_whole durable run.queue run.walk run.whole may h.1) }
run_sound durable run (Batch batch) may k h = record { durable = k; run = h }
run_sound durable run Stop may k h = record { durable = k; run = stop_whole durable run.queue run.walk run.whole h.1 }
run_sound durable run Open may k h = absurd may

pub sound_after : (durable : Durable) (run : Option Running) (event : Event) → MayCome durable run event → DurableHolds durable → RunHolds durable run → IsSound (comes durable run event)
sound_after durable (Some run) event may k h = run_sound durable run event may k h
sound_after durable None Open may k h =
    record { durable = k; run = (λ c. omega (arith, k.order_once c), open_whole durable durable.mark refl h) }
sound_after durable None (Store blocks) may k h = absurd may
sound_after durable None (Process cids) may k h = absurd may
sound_after durable None (Hear cids) may k h = absurd may
sound_after durable None Want may k h = absurd may
sound_after durable None (GiveBack c) may k h = absurd may
sound_after durable None (Missing c) may k h = absurd may
sound_after durable None (Bad c damage) may k h = absurd may
sound_after durable None Requeue may k h = absurd may
sound_after durable None WalkBegin may k h = absurd may
sound_after durable None WalkVisit may k h = absurd may
sound_after durable None WalkEnd may k h = absurd may
sound_after durable None (Batch batch) may k h = absurd may
sound_after durable None Stop may k h = absurd may

pub stays_sound : (state : State) (events : List Event) → IsSound state → MayComeAll state events → StaysSound state events
stays_sound state [] sound may = sound
stays_sound state (event ∷ events) sound may =
    (sound, stays_sound (happens state event) events (sound_after state.durable state.run event may.0 sound.durable sound.run) may.1)

-- an empty state that doesn't run is sound
pub empty_sound : IsSound (record { durable = nothing_durable; run = None })
empty_sound = record { durable = record { good = (tt {0}); stored_once = λ c. omega arith; order_once = λ c. omega arith; stored = λ c e. absurd (let no : false ≡ true = e in cc) }; run = λ e. refl }
