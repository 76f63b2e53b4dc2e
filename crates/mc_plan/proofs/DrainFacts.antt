-- The calls on jobs are drains of the wanted blocks.
use Rattle.std.proofs.Common.{◌≡◌, ℕ, Bool, true, false, cond, List, [], ◌∷◌, Option, Some, None, Result, Ok, Err, refl, sym, ◌∙◌, ap, subst}
use Rattle.mc_base.specs.declared.cid.Cid.{Cid}
use Rattle.mc_fetch.specs.declared.job.Delivered.{Delivered}
use Rattle.mc_fetch.specs.declared.job.Job.{Job}
use Rattle.mc_model.specs.Draining.{FoundBytes, HasDrained, IsFoundFor, Takes, TakesAll, all_given_back, delivery, queue_in}
use Rattle.mc_model.specs.Events.{Event, GiveBack, MayCome, MayComeAll, Requeue, Want, after, happens}
use Rattle.mc_model.specs.Graph.{has}
use Rattle.mc_model.specs.State.{Durable, IsSound, Running, State}
use Rattle.mc_plan.specs.declared.error.CoreError.{CoreError}
use Rattle.mc_plan.specs.Calls.{Call}
use Rattle.mc_plan.specs.Drained.{CallDrains, DrainsOn}
use Rattle.mc_plan.specs.Events.{ReplicaState, Goes, HappensIn}
use Rattle.mc_plan.specs.Jobs.{DeliverEvents, DeliverShort, DeliversIn, NextEvents, NextShort}
use Rattle.mc_plan.specs.Reads.{read_refusal}
use Rattle.mc_plan.specs.Refusals.{Is, kind_of}
use Rattle.mc_plan.proofs.KindFacts.{by_kind}
use Rattle.mc_plan.proofs.SoundFacts.{all_after, may_all}

takes_want : (bytes_of : FoundBytes) (durable : Durable) (run : Option Running) → MayCome durable run Want → Takes bytes_of run Want
takes_want bytes_of durable None may = absurd may
takes_want bytes_of durable (Some run) may = tt

takes_back : (bytes_of : FoundBytes) (c : Cid) (durable : Durable) (run : Option Running) → MayCome durable run (GiveBack c) → Takes bytes_of run (GiveBack c)
takes_back bytes_of c durable None may = absurd may
takes_back bytes_of c durable (Some run) may = tt

takes_requeue : (bytes_of : FoundBytes) (durable : Durable) (run : Option Running) → MayCome durable run Requeue → Takes bytes_of run Requeue
takes_requeue bytes_of durable None may = absurd may
takes_requeue bytes_of durable (Some run) may = tt

module _ (goes_on : (bytes_of : FoundBytes) (kept : List Cid) (old : Durable) (start : List Cid) (state : State) (events : List Event) → IsSound state → MayComeAll state events → TakesAll bytes_of state events
    → HasDrained bytes_of kept old start state → HasDrained bytes_of kept old start (after state events)) where
  -- events of a drain
  goes_drains : (bytes_of : FoundBytes) (events : List Event) (s new : ReplicaState) → TakesAll bytes_of s.state events → Goes events s new → DrainsOn bytes_of s new
  goes_drains bytes_of events s new takes goes kept old start sound h =
      subst (HasDrained bytes_of kept old start) (sym (ap (λ (x : ReplicaState). x.state) goes.ends ∙ all_after events s))
      (goes_on bytes_of kept old start s.state events sound (may_all events s goes.may) takes h)

  stays_drains : (bytes_of : FoundBytes) (s new : ReplicaState) → new ≡ s → DrainsOn bytes_of s new
  stays_drains bytes_of s new same kept old start sound h = subst (λ (x : ReplicaState). HasDrained bytes_of kept old start x.state) (sym same) h

  want_drains : (bytes_of : FoundBytes) (s new : ReplicaState) → Goes (Want ∷ []) s new → DrainsOn bytes_of s new
  want_drains bytes_of s new goes = goes_drains bytes_of (Want ∷ []) s new (takes_want bytes_of s.state.durable s.state.run goes.may.0, tt) goes

  back_drains : (bytes_of : FoundBytes) (c : Cid) (s new : ReplicaState) → Goes (GiveBack c ∷ []) s new → DrainsOn bytes_of s new
  back_drains bytes_of c s new goes = goes_drains bytes_of (GiveBack c ∷ []) s new (takes_back bytes_of c s.state.durable s.state.run goes.may.0, tt) goes

  pub next_drains : (bytes_of : FoundBytes) (rose : Type 0) (result : Result (Option Job) CoreError) (s new : ReplicaState) → Call (Is (read_refusal s)) (NextEvents s) (NextShort s) rose result s new → CallDrains bytes_of result s new
  next_drains bytes_of rose (Ok None) s new call = goes_drains bytes_of [] s new tt (subst (λ events. Goes events s new) call.makes.1 call.goes)
  next_drains bytes_of rose (Ok (Some job)) s new call = want_drains bytes_of s new (subst (λ events. Goes events s new) call.makes.2 call.goes)
  next_drains bytes_of rose (Err error) s new call =
      by_kind (kind_of error) (λ refused. stays_drains bytes_of s new refused.1) (λ fault. tt)
      (λ short. goes_drains bytes_of (Want ∷ GiveBack short.0 ∷ []) s new
      (takes_want bytes_of s.state.durable s.state.run short.2.may.0, (takes_back bytes_of short.0 (happens s.state Want).durable (happens s.state Want).run short.2.may.2.0, tt)) short.2)
      call

  pub back_told : (bytes_of : FoundBytes) (c : Cid) (s new : ReplicaState) → HappensIn s.state.run (λ run. cond (has c run.queue.flight) (GiveBack c ∷ []) []) s new → DrainsOn bytes_of s new
  back_told bytes_of c s new = over s.state.run refl
    where
      over : (run : Option Running) → s.state.run ≡ run → HappensIn run (λ run. cond (has c run.queue.flight) (GiveBack c ∷ []) []) s new → DrainsOn bytes_of s new
      over None e same = stays_drains bytes_of s new same
      over (Some run) e goes =
          elim (has c run.queue.flight) as (λ t. Goes (cond t (GiveBack c ∷ []) []) s new → DrainsOn bytes_of s new) [
            | true ↦ λ goes. back_drains bytes_of c s new goes
            | false ↦ λ goes. goes_drains bytes_of [] s new tt goes
          ] goes

  pub requeue_drains : (bytes_of : FoundBytes) (s new : ReplicaState) → HappensIn s.state.run (λ run. Requeue ∷ []) s new → DrainsOn bytes_of s new
  requeue_drains bytes_of s new = over s.state.run refl
    where
      over : (run : Option Running) → s.state.run ≡ run → HappensIn run (λ run. Requeue ∷ []) s new → DrainsOn bytes_of s new
      over None e same = stays_drains bytes_of s new same
      over (Some run) e goes = goes_drains bytes_of (Requeue ∷ []) s new (takes_requeue bytes_of s.state.durable s.state.run goes.may.0, tt) goes

  pub recall_drains : (takes : (bytes_of : FoundBytes) (durable : Durable) (run : Running) (cids : List Cid) → TakesAll bytes_of (record { durable = durable; run = Some run }) (all_given_back cids))
      → (bytes_of : FoundBytes) (s new : ReplicaState) → HappensIn s.state.run (λ run. all_given_back run.queue.flight) s new → DrainsOn bytes_of s new
  recall_drains takes bytes_of s new = over s.state.run refl
    where
      over : (run : Option Running) → s.state.run ≡ run → HappensIn run (λ run. all_given_back run.queue.flight) s new → DrainsOn bytes_of s new
      over None e same = stays_drains bytes_of s new same
      over (Some run) e goes =
          goes_drains bytes_of (all_given_back run.queue.flight) s new
          (subst (λ (r : Option Running). TakesAll bytes_of (record { durable = s.state.durable; run = r }) (all_given_back run.queue.flight)) (sym e) (takes bytes_of s.state.durable run run.queue.flight)) goes

  module _ (takes : (bytes_of : FoundBytes) (durable : Durable) (run : Running) (c : Cid) (found : Option (List ℕ)) → has c run.queue.flight ≡ true → IsFoundFor bytes_of c found
      → TakesAll bytes_of (record { durable = durable; run = Some run }) (delivery durable.graph c found)) where
    takes_delivery : (bytes_of : FoundBytes) (c : Cid) (found : Option (List ℕ)) (durable : Durable) (run : Option Running) (events : List Event) (answer : Delivered) → IsFoundFor bytes_of c found
        → DeliversIn (has c (queue_in run).flight) durable c found events answer → TakesAll bytes_of (record { durable = durable; run = run }) events
    takes_delivery bytes_of c found durable None events answer fits uptake = subst (TakesAll bytes_of (record { durable = durable; run = None })) (sym uptake.1) tt
    takes_delivery bytes_of c found durable (Some run) events answer fits uptake =
        elim (has c run.queue.flight) as (λ t. has c run.queue.flight ≡ t → DeliversIn t durable c found events answer → TakesAll bytes_of (record { durable = durable; run = Some run }) events) [
          | true ↦ λ e uptake. subst (TakesAll bytes_of (record { durable = durable; run = Some run })) (sym uptake.0) (takes bytes_of durable run c found e fits)
          | false ↦ λ e uptake. subst (TakesAll bytes_of (record { durable = durable; run = Some run })) (sym uptake.1) tt
        ] refl uptake

    pub deliver_drains : (bytes_of : FoundBytes) (c : Cid) (found : Option (List ℕ)) (rose : Type 0) (result : Result Delivered CoreError) (s new : ReplicaState) → IsFoundFor bytes_of c found
        → Call (Is (read_refusal s)) (DeliverEvents s c found) (DeliverShort s c) rose result s new → CallDrains bytes_of result s new
    deliver_drains bytes_of c found rose (Ok answer) s new fits call =
        goes_drains bytes_of call.events s new (takes_delivery bytes_of c found s.state.durable s.state.run call.events answer fits call.makes) call.goes
    deliver_drains bytes_of c found rose (Err error) s new fits call =
        by_kind (kind_of error) (λ refused. stays_drains bytes_of s new refused.1) (λ fault. tt) (λ short. back_drains bytes_of c s new short.1) call
