-- Missing and bad go on holding what their names say.
use Rattle.std.proofs.Common.{◌≡◌, ℕ, Bool, true, false, not, cond, List, [], ◌∷◌, ◌++◌, Option, Some, None, ◌||◌, sym, ap, ◌∙◌, inl, inr, filter}
use Rattle.std.proofs.lemmas.Bool.{or_cases}
use Rattle.mc_base.specs.declared.cid.Cid.{Cid}
use Rattle.mc_model.specs.Drain.{DrainRuns, Drains, DrainsAll, IsDrained, AllNothing, AllDamaged, PartsFit, RunFits, IsEmptied}
use Rattle.mc_model.specs.Draining.{queue_in, SaysRight, AllSayRight}
use Rattle.mc_model.specs.Events.{Event, Store, Process, Hear, Want, GiveBack, Missing, Bad, Requeue, WalkBegin, WalkVisit, WalkEnd, Batch, Stop, Open, links_at, visited, runs, comes, happens, after}
use Rattle.mc_model.specs.Found.{Nothing, Damaged, is_found, Offers}
use Rattle.mc_model.specs.Front.{same_cid}
use Rattle.mc_model.specs.Graph.{has, all_links}
use Rattle.mc_model.specs.State.{Durable, Walk, Running, State, wanted_in}
use Rattle.mc_model.specs.Wanted.{Queue, bad_cids, wanted, to_waiting, want, want_all, out_of_stuck, hear, hear_all, start_first, without}
use Rattle.mc_model.proofs.Counts.{cid_is, has-append}

nothing_push : (found : Offers) (xs : List Cid) (c : Cid) → AllNothing found xs → found c ≡ Nothing → AllNothing found (xs ++ c ∷ [])
nothing_push found [] c h e = (e, tt)
nothing_push found (x ∷ xs) c h e = (h.0, nothing_push found xs c h.1 e)

nothing_filter : (found : Offers) (test : Cid → Bool) (xs : List Cid) → AllNothing found xs → AllNothing found (filter test xs)
nothing_filter found test [] h = tt
nothing_filter found test (x ∷ xs) h =
    let rest = nothing_filter found test xs h.1 in
    elim (test x) as (λ t. AllNothing found (cond t (x ∷ filter test xs) (filter test xs))) [ true ↦ (h.0, rest) | false ↦ rest ]

damaged_push : (found : Offers) (xs : List (Cid × ℕ)) (b : Cid × ℕ) → AllDamaged found xs → found b.0 ≡ Damaged b.1 → AllDamaged found (xs ++ b ∷ [])
damaged_push found [] b h e = (e, tt)
damaged_push found (x ∷ xs) b h e = (h.0, damaged_push found xs b h.1 e)

damaged_filter : (found : Offers) (test : Cid × ℕ → Bool) (xs : List (Cid × ℕ)) → AllDamaged found xs → AllDamaged found (filter test xs)
damaged_filter found test [] h = tt
damaged_filter found test (x ∷ xs) h =
    let rest = damaged_filter found test xs h.1 in
    elim (test x) as (λ t. AllDamaged found (cond t (x ∷ filter test xs) (filter test xs))) [ true ↦ (h.0, rest) | false ↦ rest ]

nothing_has : (found : Offers) (xs : List Cid) (c : Cid) → AllNothing found xs → has c xs ≡ true → is_found (found c) ≡ false
nothing_has found [] c h e = absurd (cc)
nothing_has found (x ∷ xs) c h e = elim (or_cases (same_cid c x) (has c xs) e) [
  | inl k ↦ ap (λ d. is_found (found d)) (cid_is c x k) ∙ ap is_found h.0
  | inr k ↦ nothing_has found xs c h.1 k
]

damaged_has : (found : Offers) (xs : List (Cid × ℕ)) (c : Cid) → AllDamaged found xs → has c (bad_cids xs) ≡ true → is_found (found c) ≡ false
damaged_has found [] c h e = absurd (cc)
damaged_has found (x ∷ xs) c h e = elim (or_cases (same_cid c x.0) (has c (bad_cids xs)) e) [
  | inl k ↦ ap (λ d. is_found (found d)) (cid_is c x.0 k) ∙ ap is_found h.0
  | inr k ↦ damaged_has found xs c h.1 k
]

want_fits : (found : Offers) (order : List Cid) (q : Queue) (c : Cid) → PartsFit found q → PartsFit found (want order q c)
want_fits found order q c h = elim (has c order || has c (wanted q)) as (λ t. PartsFit found (cond t q (to_waiting q c))) [ true ↦ h | false ↦ h ]

want_all_fits : (found : Offers) (order : List Cid) (q : Queue) (cids : List Cid) → PartsFit found q → PartsFit found (want_all order q cids)
want_all_fits found order q [] h = h
want_all_fits found order q (c ∷ cids) h = want_all_fits found order (want order q c) cids (want_fits found order q c h)

-- a message takes blocks out of both

hear_fits : (found : Offers) (order : List Cid) (q : Queue) (c : Cid) → PartsFit found q → PartsFit found (hear order q c)
hear_fits found order q c h = elim (has c q.missing || has c (bad_cids q.bad)) as (λ t. PartsFit found (cond t (to_waiting (out_of_stuck q c) c) (want order q c))) [
  | true ↦ (nothing_filter found (λ d. not (same_cid d c)) q.missing h.0, damaged_filter found (λ (b : Cid × ℕ). not (same_cid b.0 c)) q.bad h.1)
  | false ↦ want_fits found order q c h
]

hear_all_fits : (found : Offers) (order : List Cid) (q : Queue) (cids : List Cid) → PartsFit found q → PartsFit found (hear_all order q cids)
hear_all_fits found order q [] h = h
hear_all_fits found order q (c ∷ cids) h = hear_all_fits found order (hear order q c) cids (hear_fits found order q c h)

start_fits : (found : Offers) (q : Queue) (waiting : List Cid) → PartsFit found q → PartsFit found (start_first q waiting)
start_fits found q [] h = h
start_fits found q (c ∷ rest) h = h

run_fits : (found : Offers) (durable : Durable) (run : Running) (event : Event) → SaysRight found event → PartsFit found run.queue → PartsFit found (queue_in (runs durable run event).run)
run_fits found durable run (Store blocks) says h = h
run_fits found durable run (Process cids) says h =
    want_all_fits found (durable.order ++ cids) (without run.queue cids) (all_links durable.graph cids)
    (nothing_filter found (λ d. not (has d cids)) run.queue.missing h.0, damaged_filter found (λ (b : Cid × ℕ). not (has b.0 cids)) run.queue.bad h.1)
run_fits found durable run (Hear cids) says h = hear_all_fits found durable.order run.queue cids h
run_fits found durable run Want says h = start_fits found run.queue run.queue.waiting h
run_fits found durable run (GiveBack c) says h = h
run_fits found durable run (Missing c) says h = (nothing_push found run.queue.missing c h.0 says, h.1)
run_fits found durable run (Bad c damage) says h = (h.0, damaged_push found run.queue.bad (c, damage) h.1 says)
run_fits found durable run Requeue says h = (tt, tt)
run_fits found durable run WalkBegin says h = h
run_fits found durable run WalkVisit says h = visit_fits run.walk
  where
    visit_fits : (walk : Option Walk) → PartsFit found (queue_in (visited durable run walk).run)
    visit_fits None = h
    visit_fits (Some (end, next)) = want_all_fits found durable.order run.queue (links_at durable next) h
run_fits found durable run WalkEnd says h = h
run_fits found durable run (Batch batch) says h = h
run_fits found durable run Stop says h = (tt, tt)
run_fits found durable run Open says h = h

comes_fits : (found : Offers) (durable : Durable) (run : Option Running) (event : Event) → SaysRight found event → PartsFit found (queue_in run) → PartsFit found (queue_in (comes durable run event).run)
comes_fits found durable (Some run) event says h = run_fits found durable run event says h
comes_fits found durable None Open says h = (tt, tt)
comes_fits found durable None event says h = (tt, tt)

pub parts_stay : (found : Offers) (state : State) (events : List Event) → AllSayRight found events → PartsFit found (queue_in state.run) → PartsFit found (queue_in (after state events).run)
parts_stay found state [] says h = h
parts_stay found state (event ∷ events) says h = parts_stay found (happens state event) events says.1 (comes_fits found state.durable state.run event says.0 h)

-- in a drain each event says what is right, and the replica goes on to run

drain_says : (found : Offers) (durable : Durable) (run : Running) (event : Event) → DrainRuns found durable run event → SaysRight found event
drain_says found durable run (Missing c) does = does
drain_says found durable run (Bad c damage) does = does
drain_says found durable run event does = tt

drain_runs : (found : Offers) (durable : Durable) (run : Running) (event : Event) → DrainRuns found durable run event → PartsFit found (queue_in (runs durable run event).run) → RunFits found (runs durable run event).run
drain_runs found durable run WalkVisit does h = absurd does
drain_runs found durable run Stop does h = absurd does
drain_runs found durable run event does h = h

drain_fits : (found : Offers) (durable : Durable) (run : Option Running) (event : Event) → Drains found durable run event → RunFits found run → RunFits found (comes durable run event).run
drain_fits found durable None event does h = absurd h
drain_fits found durable (Some run) event does h = drain_runs found durable run event does (run_fits found durable run event (drain_says found durable run event does) h)

pub all_fit : (found : Offers) (state : State) (events : List Event) → DrainsAll found state events → RunFits found state.run → RunFits found (after state events).run
all_fit found state [] does h = h
all_fit found state (event ∷ events) does h = all_fit found (happens state event) events does.1 (drain_fits found state.durable state.run event does.0 h)

pub queue_drained : (found : Offers) (q : Queue) → PartsFit found q → q.waiting ≡ [] → q.flight ≡ [] → (c : Cid) → has c (wanted q) ≡ true → is_found (found c) ≡ false
queue_drained found q h w f c e =
    let rest : has c (q.missing ++ bad_cids q.bad) ≡ true = sym (ap (λ part. has c (part ++ (q.missing ++ bad_cids q.bad))) f) ∙ sym (ap (λ part. has c (part ++ (q.flight ++ (q.missing ++ bad_cids q.bad)))) w) ∙ e in
    elim (or_cases (has c q.missing) (has c (bad_cids q.bad)) (sym (has-append c q.missing (bad_cids q.bad)) ∙ rest)) [
      | inl k ↦ nothing_has found q.missing c h.0 k
      | inr k ↦ damaged_has found q.bad c h.1 k
    ]

run_drained : (found : Offers) (run : Option Running) → RunFits found run → IsEmptied run → (c : Cid) → has c (wanted_in run) ≡ true → is_found (found c) ≡ false
run_drained found None h e = absurd h
run_drained found (Some run) h e = queue_drained found run.queue h e.0 e.1

pub emptied_drained : (found : Offers) (state : State) (events : List Event) → DrainsAll found state events → RunFits found state.run → IsEmptied (after state events).run → IsDrained found (after state events)
emptied_drained found state events does h e = run_drained found (after state events).run (all_fit found state events does h) e
