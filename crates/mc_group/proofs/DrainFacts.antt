-- The calls on an inbox are drains of the wanted blocks.
use Rattle.std.proofs.Common.{◌≡◌, List, [], ◌∷◌, Option, Some, None, Result, Ok, Err, refl, sym, ◌∙◌, ap, subst}
use Rattle.mc_base.specs.declared.cid.Cid.{Cid}
use Rattle.mc_model.specs.declared.block.Stored.{Stored}
use Rattle.mc_model.specs.Draining.{FoundBytes, HasDrained, TakesAll, all_given_back, queue_in}
use Rattle.mc_model.specs.Events.{Event, MayComeAll, after}
use Rattle.mc_model.specs.Kept.{cids_of}
use Rattle.mc_model.specs.State.{Durable, IsSound, Running, State}
use Rattle.mc_plan.specs.declared.error.CoreError.{CoreError}
use Rattle.mc_plan.specs.Calls.{Call, Stays}
use Rattle.mc_plan.specs.Drained.{CallDrains, DrainsOn}
use Rattle.mc_plan.specs.Events.{ReplicaState, Goes, HappensIn}
use Rattle.mc_plan.specs.Reads.{read_refusal}
use Rattle.mc_plan.specs.Refusals.{Is, kind_of}
use Rattle.mc_plan.proofs.KindFacts.{by_kind}
use Rattle.mc_plan.proofs.SoundFacts.{all_after, may_all}
use Rattle.mc_inbox.specs.Groups.{AreOffered, group_events, group_of}
use Rattle.mc_group.specs.declared.grouped.Grouped.{Grouped}
use Rattle.mc_group.specs.Inboxes.{GroupEvents, given_back, taken_of}

none_in_flight : (items : List Stored) → group_of [] items ≡ []
none_in_flight [] = refl
none_in_flight (item ∷ items) = none_in_flight items

module _ (goes_on : (bytes_of : FoundBytes) (kept : List Cid) (old : Durable) (start : List Cid) (state : State) (events : List Event) → IsSound state → MayComeAll state events → TakesAll bytes_of state events
    → HasDrained bytes_of kept old start state → HasDrained bytes_of kept old start (after state events)) where
  goes_drains : (bytes_of : FoundBytes) (events : List Event) (s new : ReplicaState) → TakesAll bytes_of s.state events → Goes events s new → DrainsOn bytes_of s new
  goes_drains bytes_of events s new takes goes kept old start sound h =
      subst (HasDrained bytes_of kept old start) (sym (ap (λ (x : ReplicaState). x.state) goes.ends ∙ all_after events s))
      (goes_on bytes_of kept old start s.state events sound (may_all events s goes.may) takes h)

  stays_drains : (bytes_of : FoundBytes) (s new : ReplicaState) → new ≡ s → DrainsOn bytes_of s new
  stays_drains bytes_of s new same kept old start sound h = subst (λ (x : ReplicaState). HasDrained bytes_of kept old start x.state) (sym same) h

  module _ (takes : (bytes_of : FoundBytes) (durable : Durable) (run : Running) (items : List Stored) → AreOffered bytes_of items
      → TakesAll bytes_of (record { durable = durable; run = Some run }) (group_events durable.graph (group_of run.queue.flight items))) where
    takes_group : (bytes_of : FoundBytes) (items : List Stored) (durable : Durable) (run : Option Running) (events : List Event) → AreOffered bytes_of items → events ≡ group_events durable.graph (taken_of (queue_in run) items)
        → TakesAll bytes_of (record { durable = durable; run = run }) events
    takes_group bytes_of items durable None events fits is =
        subst (TakesAll bytes_of (record { durable = durable; run = None })) (sym (is ∙ ap (group_events durable.graph) (none_in_flight items))) tt
    takes_group bytes_of items durable (Some run) events fits is =
        subst (TakesAll bytes_of (record { durable = durable; run = Some run })) (sym is) (takes bytes_of durable run items fits)

    pub group_drains : (bytes_of : FoundBytes) (items : List Stored) (rose : Type 0) (result : Result Grouped CoreError) (s new : ReplicaState) → AreOffered bytes_of items
        → Call (Is (read_refusal s)) (GroupEvents s items) (Stays s) rose result s new → CallDrains bytes_of result s new
    group_drains bytes_of items rose (Ok grouped) s new fits call =
        goes_drains bytes_of call.events s new (takes_group bytes_of items s.state.durable s.state.run call.events fits call.makes.are) call.goes
    group_drains bytes_of items rose (Err error) s new fits call =
        by_kind (kind_of error) (λ refused. stays_drains bytes_of s new refused.1) (λ fault. tt) (λ short. stays_drains bytes_of s new short) call

  pub given_drains : (takes : (bytes_of : FoundBytes) (durable : Durable) (run : Running) (cids : List Cid) → TakesAll bytes_of (record { durable = durable; run = Some run }) (all_given_back cids))
      → (bytes_of : FoundBytes) (items : List Stored) (s new : ReplicaState) → HappensIn s.state.run (λ run. given_back run.queue items) s new → DrainsOn bytes_of s new
  given_drains takes bytes_of items s new = over s.state.run refl
    where
      over : (run : Option Running) → s.state.run ≡ run → HappensIn run (λ run. given_back run.queue items) s new → DrainsOn bytes_of s new
      over None e same = stays_drains bytes_of s new same
      over (Some run) e goes =
          goes_drains bytes_of (given_back run.queue items) s new
          (subst (λ (r : Option Running). TakesAll bytes_of (record { durable = s.state.durable; run = r }) (given_back run.queue items)) (sym e) (takes bytes_of s.state.durable run (cids_of (taken_of run.queue items)))) goes
