-- Where no keeper fails by itself, only fuses make faults; and a fuse that fires makes one.
use Rattle.std.proofs.Common.{◌≡◌, ◌≢◌, ℕ, Bool, true, false, true≢false, List, [], ◌∷◌, Option, Some, None, Ok, Err, refl, sym, ◌∙◌, ap, subst, inl, inr, ◌⊎◌, nat_lt}
use Rattle.std.specs.Prelude.{◌-◌, is_some, slice_get, if◌then◌else◌}
use Rattle.std.proofs.lemmas.Bool.{cases_eq}
use Rattle.mc_base.specs.Told.{Told}
use Rattle.mc_keep.specs.Causes.{has_fired}
use Rattle.mc_keep.specs.declared.fuse.Fuse.{Fuse}
use Rattle.mc_model.specs.Events.{Event}
use Rattle.mc_model.specs.Kept.{Kept}
use Rattle.mc_model.specs.State.{Running}
use Rattle.mc_core.specs.Events.{ReplicaState, Goes, MayHappen, all_happen, burnt_by, commits, fires_by, goes_on, state_of}
use Rattle.mc_drain.specs.Repairs.{RepairLeads}
use Rattle.mc_drain.specs.Works.{WorkLeads}
use Rattle.mc_drain.specs.declared.working.WorkError.TheVariants.{PeerFault}
use Rattle.mc_storm.specs.Interleavings.{StormCall, Write}
use Rattle.mc_storm.specs.Storms.{ActsBy, CallsRun, PutActs, StormLeads, storm_key, storm_value}
use Rattle.mc_script.specs.declared.command.Command.{Command}
use Rattle.mc_script.specs.declared.reply.Reply.{Reply}
use Rattle.mc_script.specs.declared.reply.Reply.TheVariants.{FaultKeeper, FaultPeer}
use Rattle.mc_seats.specs.declared.entry.LineEntry.{LineEntry}
use Rattle.mc_seats.specs.Asks.{focus, is_named, may_fail}
use Rattle.mc_seats.specs.Calling.{Batches, Blocks, Calling, Nothing, Reach}
use Rattle.mc_seats.specs.Doing.{At, Calls, Casts, Doing, Exports, Hears, Imports, Repairs, Steps, Storms, Tends, Works, doing}
use Rattle.mc_seats.specs.Effects.{CallsAt, DoneAt, done_by, events_by, happens_by}
use Rattle.mc_runs.specs.Promises.{fired_at, fuse_at, tells_at}
use Rattle.mc_seats.specs.Step.{GivesBack, IsFaulted, PeerBreaks, Row, Step, breaks_by, is_fault}
use Rattle.mc_seats.specs.Works.{budget_of, finds_of, repair_budget}
use Rattle.mc_seats.specs.Worlds.{Moved, MovedAt, Place, WorldState, peers_of}
use Rattle.mc_runs.proofs.PromiseFacts.{back_is, others_stand}
use Rattle.mc_runs.proofs.ReplyFacts.{done_plainly, refuses_no_fault}
use Rattle.mc_runs.proofs.TendFacts.{IsTended, is_plain, tended}
use Rattle.mc_seats.proofs.WorkedFacts.{fuse_stays, pulled_unfired, told_unfired}
use Rattle.mc_runs.proofs.WrittenFacts.{moved_stands}

-- a fault that is answered

abbrev is_peer_fault : Reply → Bool
is_peer_fault FaultPeer = true
is_peer_fault reply = false

not_both : (reply : Reply) → reply ≡ FaultKeeper → reply ≡ FaultPeer → ⊥
not_both reply keeper peer = true≢false (sym (ap is_peer_fault peer) ∙ ap is_peer_fault keeper)

no_name : (numbers : List ℕ) (at : ℕ) → numbers ≡ [] → is_named numbers at ≡ true → ⊥
no_name numbers at none named = true≢false (sym named ∙ ap (λ list. is_named list at) none)

pub no_peer_fault : (w : WorldState) (command : Command) (entry : LineEntry) (reply : Reply) (w2 : WorldState) → Step w command entry reply w2 → entry.desks ≡ [] → reply ≢ FaultPeer
no_peer_fault w command entry reply w2 step none says = over step.row
  where
    over : Row w command (λ r. is_named entry.keepers r ≡ true) (λ r. is_named entry.own r ≡ true) (λ r. is_named entry.desks r ≡ true) reply w2 → ⊥
    over (inl (inl (inl refused))) = true≢false (sym (ap is_fault says) ∙ refuses_no_fault w command reply step.there refused.cause)
    over (inl (inl (inr done))) = true≢false (sym (done_plainly w command reply w2 done) ∙ ap is_plain says)
    over (inl (inr fault)) = not_both reply fault.says says
    over (inr peer) = no_name entry.desks peer.at none peer.cause

pub fault_is_fuse : (w : WorldState) (command : Command) (entry : LineEntry) (reply : Reply) (w2 : WorldState) → Step w command entry reply w2 → entry.own ≡ [] → reply ≡ FaultKeeper
    → (r : ℕ) × (is_named (may_fail command) r ≡ true) × (fired_at w w2 r ≡ true)
fault_is_fuse w command entry reply w2 step none says = over step.row
  where
    by_why : (fault : IsFaulted w command (λ r. is_named entry.keepers r ≡ true) (λ r. is_named entry.own r ≡ true) reply w2) → (has_fired fault.moved.old.fuse fault.moved.new.fuse ≡ true) ⊎ (is_named entry.own fault.at ≡ true)
        → (r : ℕ) × (is_named (may_fail command) r ≡ true) × (fired_at w w2 r ≡ true)
    by_why fault (inl fired) = (
      fault.at,
      fault.among,
      ap (λ o. has_fired (fuse_at o) (fuse_at (slice_get w2.places fault.at))) fault.moved.stands ∙ ap (λ o. has_fired fault.moved.old.fuse (fuse_at o)) (moved_stands fault.at w.places w2.places _ fault.moved) ∙ fired,
    )
    by_why fault (inr own) = absurd (no_name entry.own fault.at none own)

    over : Row w command (λ r. is_named entry.keepers r ≡ true) (λ r. is_named entry.own r ≡ true) (λ r. is_named entry.desks r ≡ true) reply w2 → (r : ℕ) × (is_named (may_fail command) r ≡ true) × (fired_at w w2 r ≡ true)
    over (inl (inl (inl refused))) = absurd (true≢false (sym (ap is_fault says) ∙ refuses_no_fault w command reply step.there refused.cause))
    over (inl (inl (inr done))) = absurd (true≢false (sym (done_plainly w command reply w2 done) ∙ ap is_plain says))
    over (inl (inr fault)) = by_why fault fault.moved.holds.why
    over (inr peer) = absurd (not_both reply says peer.says)

-- a fuse that fires makes a fault

not_fired : (old new : Option Fuse) → (is_some old ≡ true → is_some new ≡ true) → has_fired old new ≡ false
not_fired None new keeps = refl
not_fired (Some old) None keeps = absurd (true≢false (sym (keeps refl)))
not_fired (Some old) (Some new) keeps = refl

same_fuse : (old new : Option Fuse) → new ≡ old → has_fired old new ≡ false
same_fuse old new same = not_fired old new (λ is. ap is_some same ∙ is)

-- a commit that doesn't fail leaves a fuse that was armed
alive : (commit : Bool) (fuse : Option Fuse) → fires_by commit fuse ≡ None → is_some fuse ≡ true → is_some (burnt_by commit fuse) ≡ true
alive false fuse calm is = is
alive true None calm is = is
alive true (Some fuse) calm is = by_test (nat_lt 1 fuse.commit) calm
  where
    by_test : (b : Bool) → (if b then None else Some fuse.after) ≡ None → is_some {T = Fuse} (if b then Some (record { commit = fuse.commit - 1; after = fuse.after }) else None) ≡ true
    by_test true calm = refl
    by_test false calm = absurd (true≢false (ap is_some calm))

goes_alive : (events : List Event) (s : ReplicaState) → MayHappen s events → is_some s.fuse ≡ true → is_some (all_happen s events).fuse ≡ true
goes_alive [] s may is = is
goes_alive (event ∷ events) s may is = goes_alive events (goes_on s event) may.2 (alive (commits s event) s.fuse may.1 is)

goes_unfired : (events : List Event) (s t : ReplicaState) → Goes events s t → has_fired s.fuse t.fuse ≡ false
goes_unfired events s t goes = not_fired s.fuse t.fuse (λ is. ap (λ (x : ReplicaState). is_some x.fuse) goes.ends ∙ goes_alive events s goes.may is)

happens_unfired : (w : WorldState) (d : Doing) (reply : Reply) (old new : Option Kept) (fuse fuse2 : Option Fuse) (run run2 : Option Running) → is_some old ≡ true → Told (state_of old fuse run) (state_of new fuse2 run2) (λ s new. (events : List Event) × events_by w s d events reply × Goes events s new) → has_fired fuse fuse2 ≡ false
happens_unfired w d reply None new fuse fuse2 run run2 tells told = absurd (true≢false (sym tells))
happens_unfired w d reply (Some old) None fuse fuse2 run run2 tells told = absurd told
happens_unfired w d reply (Some old) (Some new) fuse fuse2 run run2 tells told = goes_unfired told.0 _ _ told.2

place_unfired : (w : WorldState) (d : Doing) (reply : Reply) (p q : Place) → is_some p.content ≡ true → happens_by w d p q reply → has_fired p.fuse q.fuse ≡ false
place_unfired w d reply p q tells happens = happens_unfired w d reply p.content q.content p.fuse q.fuse p.run q.run tells happens

now_same : (p q : Place) → q ≡ p → has_fired p.fuse q.fuse ≡ false
now_same p q same = same_fuse p.fuse q.fuse (ap (λ (x : Place). x.fuse) same)

-- the calls of a storm's writers

put_unfired : (made : Bool) (key bytes : List ℕ) (s t : ReplicaState) → PutActs made key bytes s t → has_fired s.fuse t.fuse ≡ false
put_unfired true key bytes s t makes = goes_unfired makes.done.events s t makes.done.goes
put_unfired false key bytes s t refused = same_fuse s.fuse t.fuse (ap (λ (x : ReplicaState). x.fuse) refused.same)

call_unfired : (gets : Bool) (key bytes : List ℕ) (write : Write) (s t : ReplicaState) → ActsBy gets key bytes write s t → has_fired s.fuse t.fuse ≡ false
call_unfired false key bytes write s t acts = put_unfired write.made key bytes s t acts
call_unfired true key bytes write s t acts = same_fuse s.fuse t.fuse (ap (λ (x : ReplicaState). x.fuse) acts.unchanged)

unfired_then : (old mid new : Option Fuse) → has_fired old mid ≡ false → has_fired mid new ≡ false → has_fired old new ≡ false
unfired_then None mid new first next = refl
unfired_then (Some old) None new first next = absurd (true≢false first)
unfired_then (Some old) (Some mid) None first next = absurd (true≢false next)
unfired_then (Some old) (Some mid) (Some new) first next = refl

calls_unfired : (calls : List StormCall) (s t : ReplicaState) → CallsRun calls s t → has_fired s.fuse t.fuse ≡ false
calls_unfired [] s t same = same_fuse s.fuse t.fuse (ap (λ (x : ReplicaState). x.fuse) same)
calls_unfired (call ∷ calls) s t (mid, acts, run) =
    unfired_then s.fuse mid.fuse t.fuse (call_unfired call.gets (storm_key call.writer) (storm_value call.write.number) call.write s mid acts) (calls_unfired calls mid t run)

reach_unfired : (w : WorldState) (d : Doing) (reach : Reach) (call : Calling) (reply : Reply) (p q : Place) → is_some p.content ≡ true → CallsAt reach call p q reply → happens_by w d p q reply → has_fired p.fuse q.fuse ≡ false
reach_unfired w d Nothing call reply p q tells h happens = now_same p q h.0
reach_unfired w d (Batches B) call reply p q tells h happens = same_fuse p.fuse q.fuse h.1.1
reach_unfired w d (Blocks B) call reply p q tells h happens = place_unfired w d reply p q tells happens

done_unfired : (w : WorldState) (d : Doing) (reply : Reply) (p q : Place) → IsTended d → is_some p.content ≡ true → done_by w d p q reply → has_fired p.fuse q.fuse ≡ false
done_unfired w (At r (Calls call)) reply p q is tells h = reach_unfired w (At r (Calls call)) call.reach call reply p q tells h.0 h.1
done_unfired w (At r (Tends tending)) reply p q is tells h = not_fired p.fuse q.fuse (is.fuse_kept p q reply h)
done_unfired w (At r Casts) reply p q is tells h = now_same p q h
done_unfired w (At r (Hears message)) reply p q is tells h = same_fuse p.fuse q.fuse h.0.1.1
done_unfired w (At r Exports) reply p q is tells h = now_same p q h
done_unfired w (At r (Imports car)) reply p q is tells h = place_unfired w (At r (Imports car)) reply p q tells h.1
done_unfired w (At r Steps) reply p q is tells h = place_unfired w (At r Steps) reply p q tells h.1
done_unfired w (At r (Works budget)) reply p q is tells h = pulled_unfired _ _ (WorkLeads (budget_of budget) (finds_of (peers_of w r)) (Ok h.value)) (λ s t leads. fuse_stays _ s.fuse t.fuse leads.fuse) p q tells h.works
done_unfired w (At r Repairs) reply p q is tells h = pulled_unfired _ _ (RepairLeads repair_budget (finds_of (peers_of w r)) (Ok h.value)) (λ s t leads. fuse_stays _ s.fuse t.fuse leads.fuse) p q tells h.repairs
done_unfired w (At r (Storms writers writes)) reply p q is tells h = told_unfired (StormLeads writers writes (Ok h.value) ⊥) (λ s t ends. calls_unfired ends.calls s t ends.run) p.content q.content p.fuse q.fuse p.run q.run tells h.told
done_unfired w d reply p q is tells h = absurd h.0

back_unfired : (p q : Place) → is_some p.content ≡ true → GivesBack p q → has_fired p.fuse q.fuse ≡ false
back_unfired p q tells back = same_fuse p.fuse q.fuse (ap (λ (x : Place). x.fuse) (back_is p q back).1)

peer_unfired : (w : WorldState) (d : Doing) (p q : Place) → is_some p.content ≡ true → breaks_by w d p q → has_fired p.fuse q.fuse ≡ false
peer_unfired w (At r (Works budget)) p q tells breaks = pulled_unfired _ _ (WorkLeads (budget_of budget) (finds_of (peers_of w r)) (Err PeerFault)) (λ s t leads. fuse_stays _ s.fuse t.fuse leads.fuse) p q tells breaks
peer_unfired w (At r Repairs) p q tells breaks = pulled_unfired _ _ (RepairLeads repair_budget (finds_of (peers_of w r)) (Err PeerFault)) (λ s t leads. fuse_stays _ s.fuse t.fuse leads.fuse) p q tells breaks
peer_unfired w d p q tells back = back_unfired p q tells back

-- where one replica of a world changes

still : (w w2 : WorldState) (r : ℕ) → slice_get w2.places r ≡ slice_get w.places r → fired_at w w2 r ≡ false
still w w2 r same = ap (λ o. has_fired (fuse_at (slice_get w.places r)) (fuse_at o)) same ∙ same_fuse (fuse_at (slice_get w.places r)) (fuse_at (slice_get w.places r)) refl

moved_unfired : (w w2 : WorldState) (at : ℕ) (P : Place → Place → Type 0) → ((p q : Place) → is_some p.content ≡ true → P p q → has_fired p.fuse q.fuse ≡ false) → Moved at w.places w2.places P
    → (r : ℕ) → tells_at (slice_get w.places r) ≡ true → fired_at w w2 r ≡ false
moved_unfired w w2 at P calm m r tells = by_place (cases_eq r at)
  where
    by_place : (r ≡ at) ⊎ (r ≡ at → ⊥) → fired_at w w2 r ≡ false
    by_place (inr other) = still w w2 r (others_stand at w.places w2.places P r m other)
    by_place (inl is) = subst (λ n. fired_at w w2 n ≡ false) (sym is) (
        ap (λ o. has_fired (fuse_at o) (fuse_at (slice_get w2.places at))) m.stands ∙ ap (λ o. has_fired m.old.fuse (fuse_at o)) (moved_stands at w.places w2.places P m)
        ∙ calm m.old m.new (sym (ap tells_at m.stands) ∙ subst (λ n. tells_at (slice_get w.places n) ≡ true) is tells) m.holds)

moved_at_unfired : (w w2 : WorldState) (at : Option ℕ) (P : Place → Place → Type 0) → ((p q : Place) → is_some p.content ≡ true → P p q → has_fired p.fuse q.fuse ≡ false) → MovedAt at w.places w2.places P
    → (r : ℕ) → tells_at (slice_get w.places r) ≡ true → fired_at w w2 r ≡ false
moved_at_unfired w w2 None P calm m r tells = still w w2 r (ap (λ places. slice_get places r) m)
moved_at_unfired w w2 (Some at) P calm m r tells = moved_unfired w w2 at P calm m r tells

pub fuse_is_fault : (w : WorldState) (command : Command) (entry : LineEntry) (reply : Reply) (w2 : WorldState) (r : ℕ) → Step w command entry reply w2 → tells_at (slice_get w.places r) ≡ true → fired_at w w2 r ≡ true → reply ≡ FaultKeeper
fuse_is_fault w command entry reply w2 r step tells fired = over step.row
  where
    over : Row w command (λ r. is_named entry.keepers r ≡ true) (λ r. is_named entry.own r ≡ true) (λ r. is_named entry.desks r ≡ true) reply w2 → reply ≡ FaultKeeper
    over (inl (inl (inl refused))) = absurd (true≢false (sym fired ∙ still w w2 r (ap (λ (x : WorldState). slice_get x.places r) refused.same)))
    over (inl (inl (inr done))) = absurd (true≢false (sym fired ∙ moved_at_unfired w w2 (focus command) (λ p q. DoneAt w command p q reply) (λ p q. done_unfired w (doing command) reply p q (tended command)) done.moved r tells))
    over (inl (inr fault)) = fault.says
    over (inr peer) = absurd (true≢false (sym fired ∙ moved_at_unfired w w2 (focus command) (PeerBreaks w command) (peer_unfired w (doing command)) peer.moved r tells))
