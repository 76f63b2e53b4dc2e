-- No event takes anything out of L or B.
use Rattle.std.proofs.Common.{◌≡◌, ℕ, List, [], ◌∷◌, ◌++◌, Option, Some, None, sym, refl, ap, ◌∙◌, subst}
use Rattle.std.proofs.lemmas.List.{append_assoc, append-nil}
use Rattle.mc_model.specs.Events.{Event, Store, Process, Hear, Want, GiveBack, Missing, Bad, Requeue, WalkBegin, WalkVisit, WalkEnd, Batch, Stop, Open, visited, runs, comes, happens, after, Goes, GoesOn}
use Rattle.mc_model.specs.State.{Durable, Running, State}

stays : (old new : Durable) → new.order ≡ old.order → new.graph ≡ old.graph → GoesOn old new
stays old new e f = record { processed = []; stored = []; order = e ∙ sym (append-nil old.order); graph = f ∙ sym (append-nil old.graph) }

pub goes_on_then : (a b c : Durable) → GoesOn a b → GoesOn b c → GoesOn a c
goes_on_then a b c g h = record {
  processed = g.processed ++ h.processed;
  stored = g.stored ++ h.stored;
  order = h.order ∙ ap (λ front. front ++ h.processed) g.order ∙ append_assoc a.order g.processed h.processed;
  graph = h.graph ∙ ap (λ front. front ++ h.stored) g.graph ∙ append_assoc a.graph g.stored h.stored;
}

visit_goes : (durable : Durable) (run : Running) (walk : Option (ℕ × ℕ)) → GoesOn durable (visited durable run walk).durable
visit_goes durable run None = stays durable durable refl refl
visit_goes durable run (Some (n, v)) = stays durable durable refl refl

run_goes : (durable : Durable) (run : Running) (event : Event) → GoesOn durable (runs durable run event).durable
run_goes durable run (Store blocks) = record { processed = []; stored = blocks; order = sym (append-nil durable.order); graph = refl }
run_goes durable run (Process cids) = record { processed = cids; stored = []; order = refl; graph = sym (append-nil durable.graph) }
run_goes durable run (Hear cids) = stays durable durable refl refl
run_goes durable run Want = stays durable durable refl refl
run_goes durable run (GiveBack c) = stays durable durable refl refl
run_goes durable run (Missing c) = stays durable durable refl refl
run_goes durable run (Bad c damage) = stays durable durable refl refl
run_goes durable run Requeue = stays durable durable refl refl
run_goes durable run WalkBegin = stays durable durable refl refl
run_goes durable run WalkVisit = visit_goes durable run run.walk
run_goes durable run WalkEnd = stays durable (runs durable run WalkEnd).durable refl refl
run_goes durable run (Batch batch) = stays durable durable refl refl
run_goes durable run Stop = stays durable durable refl refl
run_goes durable run Open = stays durable durable refl refl

comes_goes : (durable : Durable) (run : Option Running) (event : Event) → GoesOn durable (comes durable run event).durable
comes_goes durable (Some run) event = run_goes durable run event
comes_goes durable None Open = stays durable durable refl refl
comes_goes durable None (Store blocks) = stays durable durable refl refl
comes_goes durable None (Process cids) = stays durable durable refl refl
comes_goes durable None (Hear cids) = stays durable durable refl refl
comes_goes durable None Want = stays durable durable refl refl
comes_goes durable None (GiveBack c) = stays durable durable refl refl
comes_goes durable None (Missing c) = stays durable durable refl refl
comes_goes durable None (Bad c damage) = stays durable durable refl refl
comes_goes durable None Requeue = stays durable durable refl refl
comes_goes durable None WalkBegin = stays durable durable refl refl
comes_goes durable None WalkVisit = stays durable durable refl refl
comes_goes durable None WalkEnd = stays durable durable refl refl
comes_goes durable None (Batch batch) = stays durable durable refl refl
comes_goes durable None Stop = stays durable durable refl refl

pub goes_on : (state : State) (events : List Event) → GoesOn state.durable (after state events).durable
goes_on state [] = stays state.durable state.durable refl refl
goes_on state (event ∷ events) = goes_on_then _ _ _ (comes_goes state.durable state.run event) (goes_on (happens state event) events)

pub goes_grow : (old new : State) → Goes old new → GoesOn old.durable new.durable
goes_grow old new g = subst (λ (z : State). GoesOn old.durable z.durable) g.ends (goes_on old g.events)
