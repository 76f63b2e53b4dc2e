-- A command that is cut short by a fuse: which event fires it is one, and with it what is left.
use Rattle.std.proofs.Common.{◌≡◌, ℕ, Bool, true, false, true≢false, ◌||◌, List, [], ◌∷◌, ◌++◌, cond, drop, Option, Some, None, refl, sym, ◌∙◌, ap, subst, inl, inr, nat_eq}
use Rattle.std.specs.Prelude.{◌⊎◌, slice_get}
use Rattle.std.proofs.lemmas.Bool.{eqb-true}
use Rattle.mc_keep.specs.Causes.{CommitFails, burnt, fires}
use Rattle.mc_keep.specs.declared.fuse.Fuse.{Fuse}
use Rattle.mc_model.specs.Events.{Event, happens}
use Rattle.mc_model.specs.State.{Durable}
use Rattle.mc_core.specs.Calls.{Faults}
use Rattle.mc_core.specs.Events.{Breaks, CommitBreaks, IsCutShort, MayHappen, ReplicaState, all_happen, commits, fires_by, goes_on, stopped_with}
use Rattle.mc_core.specs.Exact.{seen_of}
use Rattle.mc_core.specs.declared.CoreError.{CoreError}
use Rattle.mc_core.specs.declared.CoreError.TheVariants as core
use Rattle.mc_script.specs.declared.command.Command.{Command}
use Rattle.mc_script.specs.declared.command.Command.TheVariants.{StopAt, StopAfter}
use Rattle.mc_script.specs.declared.reply.Reply.{Reply}
use Rattle.mc_script.specs.declared.reply.Reply.TheVariants as replies
use Rattle.mc_seats.specs.Asks.{fail_by, focus_by, is_named, may_fail}
use Rattle.mc_seats.specs.Doing.{At, Calls, Doing, Hears, Imports, Repairs, Steps, Storms, Works, doing}
use Rattle.mc_seats.specs.Effects.{IsReply, call_refused, events_by, happens_by, seen_by}
use Rattle.mc_seats.specs.Step.{CutShort, asked_by, faults_by, refuses_by}
use Rattle.mc_seats.specs.Worlds.{AtPlace, Place, WorldState, state_at}
use Rattle.mc_runs.specs.OneText.{AreOpen, IsOpen, has_one_outcome, refuses_block}
use Rattle.mc_runs.proofs.OneEnds.{told_after}
use Rattle.mc_runs.proofs.OneEvents.{IsOnePlace, OneLaws, made_by, made_one, no_some, ok_is, open_still, same_place, some_is, told_state}
use Rattle.mc_runs.proofs.WrittenFacts.{of_place}

-- ---- lists that are cut at an event

first_is : {A : Type 0} {x y : A} {xs ys : List A} → x ∷ xs ≡ y ∷ ys → x ≡ y
first_is {A} e = some_is (ap (λ (l : List A). slice_get l 0) e)

rest_is : {A : Type 0} {x y : A} {xs ys : List A} → x ∷ xs ≡ y ∷ ys → xs ≡ ys
rest_is {A} e = ap (λ (l : List A). drop 1 l) e

no_cut : {A : Type 0} (xs ys : List A) (x : A) → [] ≡ xs ++ x ∷ ys → ⊥
no_cut {A} [] ys x e = no_some (ap (λ (l : List A). slice_get l 0) e)
no_cut {A} (y ∷ xs) ys x e = no_some (ap (λ (l : List A). slice_get l 0) e)

-- ---- the event that fires

abbrev FiresAt : ReplicaState → Event → Type 0
FiresAt s event = fires_by (commits s event) s.fuse ≡ None → ⊥

abbrev Leaves : ReplicaState → Event → Durable → Type 0
Leaves s event left = CommitFails (fires s.fuse) ⊥ s.state.durable (happens s.state event).durable left

-- some first events have happened, and the next one is the commit that the fuse makes fail
pub record Fires (events : List Event) (s n : ReplicaState) : Type 0 where
  pub so_far : List Event
  pub event : Event
  pub more : List Event
  pub split : events ≡ so_far ++ event ∷ more
  pub may : MayHappen s so_far
  pub at : FiresAt (all_happen s so_far) event
  pub left : Durable
  pub leaves : Leaves (all_happen s so_far) event left
  pub ends : n ≡ stopped_with left (burnt (all_happen s so_far).fuse)

no_own : (fire : Option Bool) (own : Type 0) (old whole left : Durable) → (own → ⊥) → CommitFails fire own old whole left → CommitFails fire ⊥ old whole left
no_own None own old whole left none fails = (none fails.0, fails.1)
no_own (Some false) own old whole left none fails = fails
no_own (Some true) own old whole left none (inl is) = inl is
no_own (Some true) own old whole left none (inr rose) = absurd (none rose.0)

left_one : (fire : Option Bool) (old whole left left2 : Durable) → CommitFails fire ⊥ old whole left → CommitFails fire ⊥ old whole left2 → left ≡ left2
left_one None old whole left left2 a b = absurd a.0
left_one (Some false) old whole left left2 a b = a ∙ sym b
left_one (Some true) old whole left left2 (inl a) (inl b) = a ∙ sym b
left_one (Some true) old whole left left2 (inr a) b = absurd a.0
left_one (Some true) old whole left left2 (inl a) (inr b) = absurd b.0

fires_here : (commit : Bool) (fuse : Option Fuse) (old whole left : Durable) → commit ≡ true → CommitFails (fires fuse) ⊥ old whole left → fires_by commit fuse ≡ None → ⊥
fires_here false fuse old whole left is fails none = true≢false (sym is)
fires_here true fuse old whole left is fails none = (subst (λ (f : Option Bool). CommitFails f ⊥ old whole left) none fails).0

fires_of : (events : List Event) (own : Type 0) (s n : ReplicaState) → (own → ⊥) → Breaks events own s n → Fires events s n
fires_of events own s n none breaks = over breaks.rest breaks.split breaks.fate
  where
    fired : (event : Event) (more : List Event) → events ≡ breaks.so_far ++ event ∷ more → CommitBreaks event own (all_happen s breaks.so_far) n → Fires events s n
    fired event more split broke = let mid = all_happen s breaks.so_far in
        let leaves : Leaves mid event broke.left = no_own (fires mid.fuse) own mid.state.durable (happens mid.state event).durable broke.left none broke.fails in record {
          so_far = breaks.so_far;
          event = event;
          more = more;
          split = split;
          may = breaks.may;
          at = fires_here (commits mid event) mid.fuse mid.state.durable (happens mid.state event).durable broke.left broke.commit leaves;
          left = broke.left;
          leaves = leaves;
          ends = broke.ends;
        }

    over : (rest : List Event) → events ≡ breaks.so_far ++ rest → IsCutShort rest own (all_happen s breaks.so_far) n → Fires events s n
    over [] split cut = absurd (none cut.0)
    over (event ∷ more) split (inl cut) = absurd (none cut.0)
    over (event ∷ more) split (inr broke) = fired event more split broke

-- it is one
first_fires : (xs ys more more2 : List Event) (x y : Event) (s : ReplicaState) → xs ++ x ∷ more ≡ ys ++ y ∷ more2 → MayHappen s xs → MayHappen s ys → FiresAt (all_happen s xs) x → FiresAt (all_happen s ys) y → (all_happen s xs ≡ all_happen s ys) × (x ≡ y)
first_fires [] [] more more2 x y s same may may2 at at2 = (refl, first_is same)
first_fires [] (z ∷ ys) more more2 x y s same may may2 at at2 = absurd (at (ap (λ (e : Event). fires_by (commits s e) s.fuse) (first_is same) ∙ may2.1))
first_fires (z ∷ xs) [] more more2 x y s same may may2 at at2 = absurd (at2 (ap (λ (e : Event). fires_by (commits s e) s.fuse) (sym (first_is same)) ∙ may.1))
first_fires (z ∷ xs) (w ∷ ys) more more2 x y s same may may2 at at2 =
    let front : w ≡ z = sym (first_is same) in
    let next = first_fires xs ys more more2 x y (goes_on s z) (rest_is same) may.2
    (subst (λ (e : Event). MayHappen (goes_on s e) ys) front may2.2) at (subst (λ (e : Event). FiresAt (all_happen (goes_on s e) ys) y) front at2) in
    (next.0 ∙ ap (λ (e : Event). all_happen (goes_on s e) ys) (sym front), next.1)

fires_one : (events : List Event) (s n n2 : ReplicaState) → Fires events s n → Fires events s n2 → n ≡ n2
fires_one events s n n2 a b =
    let mid = all_happen s a.so_far in
    let same = first_fires a.so_far b.so_far a.more b.more a.event b.event s (sym a.split ∙ b.split) a.may b.may a.at b.at in
    let leaves : Leaves mid a.event b.left = subst (λ (e : Event). Leaves mid e b.left) (sym same.1) (subst (λ (m : ReplicaState). Leaves m b.event b.left) (sym same.0) b.leaves) in
    let left = left_one (fires mid.fuse) mid.state.durable (happens mid.state a.event).durable a.left b.left a.leaves leaves in
    a.ends ∙ (λ i. stopped_with (left i) (burnt (same.0 i).fuse)) ∙ sym b.ends

-- and not among events that have all happened
never_fires : (xs more : List Event) (x : Event) (s : ReplicaState) → MayHappen s (xs ++ x ∷ more) → FiresAt (all_happen s xs) x → ⊥
never_fires [] more x s may at = at may.1
never_fires (y ∷ xs) more x s may at = never_fires xs more x (goes_on s y) may.2 at

-- ---- a command that is cut short

abbrev one_by : Doing → Bool
one_by (At r (Works budget)) = false
one_by (At r Repairs) = false
one_by (At r (Storms writers writes)) = false
one_by d = true

one_of : (armed : Bool) (command : Command) → has_one_outcome armed command ≡ true → one_by (doing command) ≡ true
one_of armed (StopAt r commit) one = refl
one_of armed (StopAfter r commit) one = refl
one_of armed command one = one

faults_plain : (w : WorldState) (d : Doing) (own : Type 0) (s n : ReplicaState) → one_by d ≡ true → faults_by w d own s n → Faults (λ events reply. events_by w s d events reply) own s n
faults_plain w (At r (Works budget)) own s n one h = absurd (true≢false (sym one))
faults_plain w (At r Repairs) own s n one h = absurd (true≢false (sym one))
faults_plain w (At r (Storms writers writes)) own s n one h = absurd (true≢false (sym one))
faults_plain w d own s n one h = h

some_made : (w : WorldState) (s : ReplicaState) (d : Doing) (events : List Event) (reply : Reply) → (events ≡ [] → ⊥) → events_by w s d events reply → made_by d ≡ true
some_made w s (At r (Calls call)) events reply some h = refl
some_made w s (At r (Hears message)) events reply some h = refl
some_made w s (At r (Imports car)) events reply some h = refl
some_made w s (At r Steps) events reply some h = refl
some_made w s d events reply some h = absurd (some h)

-- which events were cut short, at a state
pub record IsFired (w : WorldState) (d : Doing) (s n : ReplicaState) : Type 0 where
  pub events : List Event
  pub reply : Reply
  pub are : events_by w s d events reply
  pub fires : Fires events s n
  pub made : made_by d ≡ true

is_fired : (w : WorldState) (d : Doing) (own : Type 0) (s n : ReplicaState) → one_by d ≡ true → (own → ⊥) → faults_by w d own s n → IsFired w d s n
is_fired w d own s n one none h = over (faults_plain w d own s n one h)
  where
    some : (events : List Event) → Fires events s n → events ≡ [] → ⊥
    some events fires empty = no_cut fires.so_far fires.more fires.event (sym empty ∙ fires.split)

    over : Faults (λ events reply. events_by w s d events reply) own s n → IsFired w d s n
    over faults = by faults.begins
      where
        fires : Fires faults.events s n
        fires = fires_of faults.events own s n none faults.breaks

        by : (faults.events ≡ []) ⊎ ((reply : Reply) × events_by w s d faults.events reply) → IsFired w d s n
        by (inl empty) = absurd (some faults.events fires empty)
        by (inr (reply, are)) = record { events = faults.events; reply = reply; are = are; fires = fires; made = some_made w s d faults.events reply (some faults.events fires) are }

or_false : (b : Bool) → (b || false) ≡ true → b ≡ true
or_false true e = refl
or_false false e = e

named_one : (may : Bool) (r at : ℕ) → is_named (cond may (r ∷ []) []) at ≡ true → r ≡ at
named_one true r at is = eqb-true r at (or_false (nat_eq r at) is)
named_one false r at is = absurd (true≢false (sym is))

named_focus : (d : Doing) (at : ℕ) → made_by d ≡ true → is_named (fail_by d) at ≡ true → focus_by d ≡ Some at
named_focus (At r (Calls call)) at made is = ap Some (named_one call.may r at is)
named_focus (At r (Hears message)) at made is = ap Some (named_one true r at is)
named_focus (At r (Imports car)) at made is = ap Some (named_one true r at is)
named_focus (At r Steps) at made is = ap Some (named_one true r at is)
named_focus d at made is = absurd (true≢false (sym made))

pub none_named : {numbers : List ℕ} → numbers ≡ [] → (at : ℕ) → is_named numbers at ≡ true → ⊥
none_named none at named = true≢false (sym (ap (λ (l : List ℕ). is_named l at) (sym none) ∙ named))

-- at a place that tells
pub record IsFiredAt (armed : Bool) (w : WorldState) (command : Command) (at : ℕ) (p q : Place) : Type 0 where
  pub state : ReplicaState
  pub left : ReplicaState
  pub is_state : state_at p ≡ Some state
  pub is_left : state_at q ≡ Some left
  pub fired : IsFired w (doing command) state left
  pub made : made_by (doing command) ≡ true
  pub focused : focus_by (doing command) ≡ Some at

pub fired_at : (armed : Bool) (w : WorldState) (command : Command) (at : ℕ) (p q : Place) (own : Type 0) → has_one_outcome armed command ≡ true → is_named (may_fail command) at ≡ true → (own → ⊥) → IsOpen armed p → CutShort w command own p q → IsFiredAt armed w command at p q
fired_at armed w command at p q own one among none open_p cut =
    let s = told_state armed p open_p in
    let n = told_after p q s.0 (faults_by w (doing command) own) s.1 cut.told in
    let fired = is_fired w (doing command) own s.0 n.0 (one_of armed command one) none n.2 in
    record { state = s.0; left = n.0; is_state = s.1; is_left = n.1; fired = fired; made = fired.made; focused = named_focus (doing command) at fired.made among }

-- two that came from one place are one
pub fired_place : (armed : Bool) (laws : OneLaws) (w : WorldState) (command : Command) (p q q2 : Place) (reply reply2 : Reply) (own own2 : Type 0) → AreOpen armed w → has_one_outcome armed command ≡ true → armed ≡ true → made_by (doing command) ≡ true → (own → ⊥) → (own2 → ⊥) → IsOpen armed p → reply ≡ reply2
    → CutShort w command own p q → CutShort w command own2 p q2 → IsOnePlace armed q q2 reply reply2
fired_place armed laws w command p q q2 reply reply2 own own2 all one on made none none2 open_p says cut cut2 =
    let s = told_state armed p open_p in
    let n = told_after p q s.0 (faults_by w (doing command) own) s.1 cut.told in
    let n2 = told_after p q2 s.0 (faults_by w (doing command) own2) s.1 cut2.told in
    let a = is_fired w (doing command) own s.0 n.0 (one_of armed command one) none n.2 in
    let b = is_fired w (doing command) own2 s.0 n2.0 (one_of armed command one) none2 n2.2 in
    let events = (made_one armed laws.founds w s.0 command all one made a.events b.events a.reply b.reply a.are b.are).0 in
    let same : n.0 ≡ n2.0 = fires_one a.events s.0 n.0 n2.0 a.fires (subst (λ (l : List Event). Fires l s.0 n2.0) (sym events) b.fires) in
    record {
      same = same_place laws.back q q2 n.0 n.1 (n2.1 ∙ ap Some (sym same)) (cut.planted_same ∙ sym cut2.planted_same);
      says = says;
      still = open_still laws.back armed q n.0 n.1 (λ off. absurd (true≢false (sym on ∙ off)));
    }

-- what is done is not cut short
pub fired_not_done : (armed : Bool) (laws : OneLaws) (w : WorldState) (command : Command) (at : ℕ) (p q q2 : Place) (reply : Reply) → AreOpen armed w → has_one_outcome armed command ≡ true → IsFiredAt armed w command at p q → happens_by w (doing command) p q2 reply → ⊥
fired_not_done armed laws w command at p q q2 reply all one fired happens =
    let done = told_after p q2 fired.state _ fired.is_state happens in
    let fires = fired.fired.fires in
    let events = (made_one armed laws.founds w fired.state command all one fired.made done.2.0 fired.fired.events reply fired.fired.reply done.2.1 fired.fired.are).0 in
    never_fires fires.so_far fires.more fires.event fired.state (subst (λ (l : List Event). MayHappen fired.state l) (events ∙ fires.split) done.2.2.may) fires.at

-- what asks the keeper is refused for a block alone
refused_block : (error : CoreError) (reply : Reply) → seen_of error ≡ None → IsReply error reply → refuses_block reply ≡ true
refused_block (core.BlockTooLarge len) reply seen says = ap refuses_block (sym (ok_is (replies.RefusedSize len) reply says))
refused_block core.PriorityFull reply seen says = ap refuses_block (sym (ok_is replies.RefusedPriority reply says))
refused_block (core.Clash cid) reply seen says = ap refuses_block (sym (ok_is (replies.RefusedClash cid) reply says))
refused_block core.KeeperFault reply seen says = absurd says
refused_block core.Memory reply seen says = absurd says
refused_block error reply seen says = absurd (no_some (sym seen))

seen_at : (w : WorldState) (d : Doing) (reply : Reply) (r at : ℕ) (p : Place) → Some r ≡ Some at → slice_get w.places at ≡ Some p → AtPlace w r (λ q. seen_by w q d ≡ None) → AtPlace w r (λ q. call_refused w q d (Some reply)) → refuses_block reply ≡ true
seen_at w d reply r at p focused stands asked refuses =
    let here : slice_get w.places r ≡ Some p = ap (λ (n : ℕ). slice_get w.places n) (some_is focused) ∙ stands in
    let refused = of_place w r (λ q. call_refused w q d (Some reply)) p here refuses in
    refused_block refused.0 reply (refused.1 ∙ of_place w r (λ q. seen_by w q d ≡ None) p here asked) refused.3

pub refused_seen : (w : WorldState) (d : Doing) (reply : Reply) (at : ℕ) (p : Place) → made_by d ≡ true → focus_by d ≡ Some at → slice_get w.places at ≡ Some p → asked_by w d → refuses_by w d (Some reply) → refuses_block reply ≡ true
refused_seen w (At r (Calls call)) reply at p made focused stands asked refuses = seen_at w (At r (Calls call)) reply r at p focused stands asked refuses
refused_seen w (At r (Hears message)) reply at p made focused stands asked refuses = seen_at w (At r (Hears message)) reply r at p focused stands asked refuses
refused_seen w (At r (Imports car)) reply at p made focused stands asked refuses = seen_at w (At r (Imports car)) reply r at p focused stands asked refuses
refused_seen w (At r Steps) reply at p made focused stands asked refuses = seen_at w (At r Steps) reply r at p focused stands asked refuses
refused_seen w d reply at p made focused stands asked refuses = absurd (true≢false (sym made))
