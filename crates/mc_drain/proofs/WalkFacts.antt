-- The steps of a walk in a repair.
use Rattle.std.proofs.Common.{◌≡◌, ◌+◌, ℕ, Bool, true, false, ◌&&◌, ◌||◌, List, [], ◌∷◌, ◌++◌, length, Option, Some, None, Result, Ok, Err, refl, sym, ap, ◌∙◌, subst, arith, inl, inr}
use Rattle.std.specs.Prelude.{IfSome}
use Rattle.std.proofs.lemmas.Bool.{false≢true}
use Rattle.mc_base.specs.Told.{Told}
use Rattle.mc_base.specs.declared.cid.Cid.{Cid}
use Rattle.mc_fetch.specs.Fits.{Map}
use Rattle.mc_keep.specs.Causes.{Kind, Refusal, Fault, Shortage, is_fault_kind, fires}
use Rattle.mc_keep.specs.declared.fuse.Fuse.{Fuse}
use Rattle.mc_model.specs.Draining.{came, offers_of, queue_in}
use Rattle.mc_model.specs.Events.{Event, WalkBegin, WalkVisit, WalkEnd, GoesOn, MayCome, happens, is_commit}
use Rattle.mc_model.specs.Found.{is_found}
use Rattle.mc_model.specs.Graph.{has, in_graph}
use Rattle.mc_model.specs.Repairing.{HasRepaired, is_of_walk, with_gaps}
use Rattle.mc_model.specs.State.{Durable, IsSound, Running, State}
use Rattle.mc_model.specs.Wanted.{Queue, wanted}
use Rattle.mc_model.proofs.Prefix.{goes_on_then}
use Rattle.mc_core.specs.declared.CoreError.{CoreError}
use Rattle.mc_core.specs.declared.WalkStep.{WalkStep}
use Rattle.mc_core.specs.declared.WalkStep.TheVariants.{Idle, Begun, Visited, Ended}
use Rattle.mc_core.specs.Calls.{Call, Faults, IsRefused, Stays}
use Rattle.mc_core.specs.Events.{Breaks, CommitBreaks, Goes, IsCutShort, MayHappen, ReplicaState, all_happen, burnt_by, fires_by, goes_on, stopped}
use Rattle.mc_core.specs.Reads.{read_refusal}
use Rattle.mc_core.specs.Refusals.{ByKind, Is, is_fault, kind_of}
use Rattle.mc_core.specs.Walks.{RunStep, StepWants, WalkEvents, is_whole_after, step_events}
use Rattle.mc_core.proofs.GrowthFacts.{GrowLaw, breaks_grows, goes_grows, same_goes}
use Rattle.mc_drain.specs.Leads.{FuseGoes, HasBrokenOff, count, processes}
use Rattle.mc_drain.specs.Repairs.{Walks, step_commits}
use Rattle.mc_drain.proofs.EventFacts.{event_grown, fails_count, fails_left}
use Rattle.mc_drain.proofs.FuseFacts.{fuse_burns_by, fuse_fails, fuse_fires, fuse_more, fuse_same, fuse_stays, fuse_then}
use Rattle.mc_drain.proofs.QueueFacts.{wants_flight}

abbrev pub WalksLaw : Type 0
WalksLaw = (bytes_of : Map) (kept : List Cid) (old : Durable) (start : List Cid) (state : State) (event : Event) → IsSound state → MayCome state.durable state.run event → is_of_walk event ≡ true → HasRepaired bytes_of kept old start state
    → HasRepaired bytes_of kept old start (happens state event)

-- a repair, seen at what outlives a stop
pub broken_repair : (map : Map) (kept : List Cid) (old : Durable) (start : List Cid) (state : State) → HasRepaired map kept old start state → HasBrokenOff map old (with_gaps old start) state.durable
broken_repair map kept old start state h = record {
  grown = h.repairing.grown;
  good = h.repairing.good;
  in_order = h.repairing.in_order;
  stored = h.stored;
  taken = λ c e. left (in_graph old.graph c) (has c (came old.order state.durable.order)) (has c (wanted (queue_in state.run))) (is_found (offers_of map c)) _ (h.taken c e) (h.repairing.traced c);
}
  where
    left : (graph added queued found traced : Bool) → (graph || (added || (queued && found))) ≡ true → (queued ≡ true → traced ≡ true) → (graph || (added || (traced && found))) ≡ true
    left true added queued found traced e t = refl
    left false true queued found traced e t = refl
    left false false true found true e t = e
    left false false true found false e t = absurd (false≢true (t refl))
    left false false false found traced e t = absurd (false≢true e)

pub walks_stay : (most : ℕ) (s new : ReplicaState) → new ≡ s → Walks false most s new
walks_stay most s new same = record {
  same = ap count same;
  grows = subst (λ (x : ReplicaState). GoesOn s.state.durable x.state.durable) (sym same) (same_goes s.state.durable);
  fuse = fuse_same false most s.fuse new.fuse (ap (λ (x : ReplicaState). x.fuse) same);
  goes = λ e map kept old start h. subst (λ (x : ReplicaState). HasRepaired map kept old start x.state) (sym same) h;
  breaks = λ e. absurd (false≢true e);
}

-- an event of a walk, with so many commits at most
record IsStep (event : Event) (most : ℕ) : Type 0 where
  of_walk : is_of_walk event ≡ true
  none : processes event ≡ 0
  burns : (durable : Durable) (fuse : Option Fuse) → fires_by (is_commit durable event) fuse ≡ None → FuseGoes false most fuse (burnt_by (is_commit durable event) fuse)

begin_step : IsStep WalkBegin 0
begin_step = record { of_walk = refl; none = refl; burns = λ durable fuse calm. fuse_stays false 0 fuse }

visit_step : IsStep WalkVisit 0
visit_step = record { of_walk = refl; none = refl; burns = λ durable fuse calm. fuse_stays false 0 fuse }

end_step : IsStep WalkEnd 1
end_step = record { of_walk = refl; none = refl; burns = λ durable fuse calm. fuse_burns_by (is_commit durable WalkEnd) fuse calm }

-- where more commits are allowed
step_more : (event : Event) → IsStep event 0 → IsStep event 1
step_more event step = record { of_walk = step.of_walk; none = step.none; burns = λ durable fuse calm. fuse_more false 0 1 fuse (burnt_by (is_commit durable event) fuse) (omega arith) (step.burns durable fuse calm) }

count_step : (event : Event) (most : ℕ) (s : ReplicaState) → IsStep event most → count (goes_on s event) ≡ count s
count_step event most s step = let g = event_grown s.state.durable s.state.run event in omega (arith, g.0, g.1, step.none)

-- how many commits a step may make, as the replica answers it
abbrev pub walk_commits : Result WalkStep CoreError → ℕ
walk_commits (Ok step) = step_commits (Ok (is_whole_after step))
walk_commits (Err error) = 1

module _ (grow_law : GrowLaw) (walks : WalksLaw) where
  goes_walks : (event : Event) (most : ℕ) (s new : ReplicaState) → IsStep event most → IsSound s.state → Goes (event ∷ []) s new → Walks false most s new
  goes_walks event most s new step sound goes = record {
    same = ap count goes.ends ∙ count_step event most s step;
    grows = goes_grows grow_law (event ∷ []) s new goes;
    fuse = subst (λ (x : ReplicaState). FuseGoes false most s.fuse x.fuse) (sym goes.ends) (step.burns s.state.durable s.fuse goes.may.1);
    goes = λ e map kept old start h. subst (λ (x : ReplicaState). HasRepaired map kept old start x.state) (sym goes.ends) (walks map kept old start s.state event sound goes.may.0 step.of_walk h);
    breaks = λ e. absurd (false≢true e);
  }

  -- the keeper failed before, at or after the event
  stops_walks : (rose : Type 0) (s mid new : ReplicaState) → GoesOn s.state.durable new.state.durable → FuseGoes true 1 s.fuse mid.fuse → count mid ≡ count s
      → ((map : Map) (kept : List Cid) (old : Durable) (start : List Cid) → HasRepaired map kept old start s.state → HasRepaired map kept old start mid.state)
      → new ≡ stopped mid → Walks true 1 s new
  stops_walks rose s mid new grows burns same on stop = record {
    same = ap count stop ∙ same;
    grows = grows;
    fuse = subst (λ (x : ReplicaState). FuseGoes true 1 s.fuse x.fuse) (sym stop) burns;
    goes = λ e. absurd (false≢true (sym e));
    breaks = λ e map kept old start h. subst (λ (x : ReplicaState). HasBrokenOff map old (with_gaps old start) x.state.durable) (sym stop) (broken_repair map kept old start mid.state (on map kept old start h));
  }

  commit_walks : (event : Event) (rose : Type 0) (s new : ReplicaState) → GoesOn s.state.durable new.state.durable → IsStep event 1 → IsSound s.state → CommitBreaks event rose s new → Walks true 1 s new
  commit_walks event rose s new grows step sound b =
      let g = event_grown s.state.durable s.state.run event in
      let f = fails_count (fires s.fuse) rose s.state.durable (happens s.state event).durable b.left (processes event) b.fails g in
      let l = ap count b.ends in
      record {
        same = omega (arith, f.0, f.1, step.none, l);
        grows = grows;
        fuse = subst (λ (x : ReplicaState). FuseGoes true 1 s.fuse x.fuse) (sym b.ends) (fuse_fires s.fuse);
        goes = λ e. absurd (false≢true (sym e));
        breaks = λ e map kept old start h. subst (λ (x : ReplicaState). HasBrokenOff map old (with_gaps old start) x.state.durable) (sym b.ends)
            (fails_left map old (with_gaps old start) (fires s.fuse) rose s.state.durable (happens s.state event).durable b.left b.fails (broken_repair map kept old start s.state h)
            (broken_repair map kept old start (happens s.state event) (walks map kept old start s.state event sound b.may step.of_walk h)));
      }

  none_breaks : (rose : Type 0) (s new : ReplicaState) → Breaks [] rose s new → Walks true 1 s new
  none_breaks rose s new b = over b.so_far b.rest b.split b.fate
    where
      grows : GoesOn s.state.durable new.state.durable
      grows = breaks_grows grow_law [] rose s new b

      over : (so_far rest : List Event) → [] ≡ so_far ++ rest → IsCutShort rest rose (all_happen s so_far) new → Walks true 1 s new
      over [] [] e fate = stops_walks rose s s new grows (fuse_stays true 1 s.fuse) refl (λ map kept old start h. h) fate.1
      over [] (x ∷ rest) e fate = absurd (let n : [] ≡ x ∷ rest = e in cc n)
      over (x ∷ so_far) rest e fate = absurd (let n : [] ≡ x ∷ (so_far ++ rest) = e in cc n)

  one_breaks : (event : Event) (rose : Type 0) (s new : ReplicaState) → IsStep event 1 → IsSound s.state → Breaks (event ∷ []) rose s new → Walks true 1 s new
  one_breaks event rose s new step sound b = over b.so_far b.rest b.split b.may b.fate
    where
      grows : GoesOn s.state.durable new.state.durable
      grows = breaks_grows grow_law (event ∷ []) rose s new b

      burns_at : (x : Event) → x ≡ event → fires_by (is_commit s.state.durable x) s.fuse ≡ None → FuseGoes false 1 s.fuse (goes_on s x).fuse
      burns_at x e = subst (λ (y : Event). fires_by (is_commit s.state.durable y) s.fuse ≡ None → FuseGoes false 1 s.fuse (goes_on s y).fuse) (sym e) (step.burns s.state.durable s.fuse)

      over : (so_far rest : List Event) → event ∷ [] ≡ so_far ++ rest → MayHappen s so_far → IsCutShort rest rose (all_happen s so_far) new → Walks true 1 s new
      over [] [] e may fate = absurd (let n : event ∷ [] ≡ [] = e in cc n)
      over [] (x ∷ rest) e may (inl cut) = stops_walks rose s s new grows (fuse_stays true 1 s.fuse) refl (λ map kept old start h. h) cut.1
      over [] (x ∷ rest) e may (inr commit) = commit_walks event rose s new grows step sound (subst (λ (y : Event). CommitBreaks y rose s new) (let h : x ≡ event = cc e in h) commit)
      over (x ∷ []) [] e may fate = let h : x ≡ event = cc e in
          stops_walks rose s (goes_on s x) new grows (fuse_fails 1 s.fuse (goes_on s x).fuse (burns_at x h may.1)) (ap (λ (y : Event). count (goes_on s y)) h ∙ count_step event 1 s step)
          (λ map kept old start r. walks map kept old start s.state x sound may.0 (ap is_of_walk h ∙ step.of_walk) r) fate.1
      over (x ∷ []) (y ∷ rest) e may fate = absurd (let l = ap length e in omega (arith, l))
      over (x ∷ (y ∷ so_far)) rest e may fate = absurd (let l = ap length e in omega (arith, l))

  -- the events of a step
  step_goes : (step : WalkStep) (s new : ReplicaState) → IsSound s.state → Goes (step_events step) s new → Walks false (step_commits (Ok (is_whole_after step))) s new
  step_goes Idle s new sound goes = walks_stay 1 s new goes.ends
  step_goes Begun s new sound goes = goes_walks WalkBegin 0 s new begin_step sound goes
  step_goes (Visited position) s new sound goes = goes_walks WalkVisit 0 s new visit_step sound goes
  step_goes Ended s new sound goes = goes_walks WalkEnd 1 s new end_step sound goes

  step_breaks : (step : WalkStep) (rose : Type 0) (s new : ReplicaState) → IsSound s.state → Breaks (step_events step) rose s new → Walks true 1 s new
  step_breaks Idle rose s new sound b = none_breaks rose s new b
  step_breaks Begun rose s new sound b = one_breaks WalkBegin rose s new (step_more WalkBegin begin_step) sound b
  step_breaks (Visited position) rose s new sound b = one_breaks WalkVisit rose s new (step_more WalkVisit visit_step) sound b
  step_breaks Ended rose s new sound b = one_breaks WalkEnd rose s new end_step sound b

  plan_events_are : (run : Option Running) (events : List Event) (step : WalkStep) → RunStep run events step → events ≡ step_events step
  plan_events_are None events step plan = absurd plan
  plan_events_are (Some run) events step plan = plan.1

  step_walks : (rose : Type 0) (result : Result WalkStep CoreError) (s new : ReplicaState) → IsSound s.state → Call (Is (read_refusal s)) (WalkEvents s) (Stays s) rose result s new → Walks (is_fault result) (walk_commits result) s new
  step_walks rose (Ok step) s new sound call = step_goes step s new sound (subst (λ (events : List Event). Goes events s new) (plan_events_are s.state.run call.events step call.makes) call.goes)
  step_walks rose (Err error) s new sound call = over (kind_of error) call
    where
      over : (kind : Kind) → ByKind (IsRefused (Is (read_refusal s)) error s new) (Faults (WalkEvents s) rose s new) (Stays s new) kind → Walks (is_fault_kind kind) 1 s new
      over Refusal refused = walks_stay 1 s new refused.1
      over Fault faults = elim faults.begins [
        | inl none ↦ none_breaks rose s new (subst (λ (events : List Event). Breaks events rose s new) none faults.breaks)
        | inr (step, plan) ↦ step_breaks step rose s new sound (subst (λ (events : List Event). Breaks events rose s new) (plan_events_are s.state.run faults.events step plan) faults.breaks)
      ]
      over Shortage same = walks_stay 1 s new same

  pub walk_told : (rose : Type 0) (result : Result WalkStep CoreError) (failed : Bool) (most : ℕ) (a b : Option ReplicaState) → is_fault result ≡ failed → walk_commits result ≡ most → IfSome a (λ s. IsSound s.state)
      → Told a b (λ s new. Call (Is (read_refusal s)) (WalkEvents s) (Stays s) rose result s new) → Told a b (λ s new. Walks failed most s new)
  walk_told rose result failed most None b flag many sound t = tt
  walk_told rose result failed most (Some s) None flag many sound t = absurd t
  walk_told rose result failed most (Some s) (Some new) flag many sound t = subst (λ (f : Bool). Walks f most s new) flag (subst (λ (n : ℕ). Walks (is_fault result) n s new) many (step_walks rose result s new sound t))

-- steps after steps
pub walks_itself : (a : Option ReplicaState) → Told a a (λ s new. Walks false 0 s new)
walks_itself None = tt
walks_itself (Some s) = walks_stay 0 s s refl

pub walks_then : (failed : Bool) (most : ℕ) (a m b : Option ReplicaState) → Told a m (λ s mid. Walks false 0 s mid) → Told m b (λ mid new. Walks failed most mid new) → Told a b (λ s new. Walks failed most s new)
walks_then failed most None m b p q = tt
walks_then failed most (Some s) None b p q = absurd p
walks_then failed most (Some s) (Some mid) None p q = absurd q
walks_then failed most (Some s) (Some mid) (Some new) p q = record {
  same = q.same ∙ p.same;
  grows = goes_on_then s.state.durable mid.state.durable new.state.durable p.grows q.grows;
  fuse = fuse_more failed (0 + most) most s.fuse new.fuse (omega arith) (fuse_then failed 0 most s.fuse mid.fuse new.fuse p.fuse q.fuse);
  goes = λ e map kept old start h. q.goes e map kept old start (p.goes refl map kept old start h);
  breaks = λ e map kept old start h. q.breaks e map kept old start (p.goes refl map kept old start h);
}

-- a step, by whether it was the last one
pub step_told : (a b : Option ReplicaState) (last is : Bool) → last ≡ is → Told a b (λ s new. Walks false (step_commits (Ok last)) s new) → Told a b (λ s new. Walks false (step_commits (Ok is)) s new)
step_told a b last is e t = subst (λ (x : Bool). Told a b (λ s new. Walks false (step_commits (Ok x)) s new)) e t

-- a step leaves what is in flight
pub step_flight : (step : WalkStep) (q left : Queue) → StepWants step q left → left.flight ≡ q.flight
step_flight Idle q left is = ap (λ (x : Queue). x.flight) is
step_flight Begun q left is = ap (λ (x : Queue). x.flight) is
step_flight (Visited position) q left is = ap (λ (x : Queue). x.flight) is.1 ∙ wants_flight is.0 q
step_flight Ended q left is = ap (λ (x : Queue). x.flight) is
