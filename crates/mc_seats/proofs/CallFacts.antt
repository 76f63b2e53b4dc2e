-- From a call of a replica to the row of a command at its place.
use Rattle.std.proofs.Common.{◌≡◌, Bool, true, false, true≢false, List, Option, Some, None, Result, Ok, Err, refl, sym, ap, ◌∙◌, subst, inl, inr}
use Rattle.std.specs.Prelude.{IsErrAnd}
use Rattle.mc_base.specs.Told.{Told}
use Rattle.mc_keep.specs.Causes.{Kind, Refusal, Fault, Shortage}
use Rattle.mc_model.specs.Events.{Event}
use Rattle.mc_core.specs.declared.CoreError.{CoreError}
use Rattle.mc_core.specs.declared.CoreError.TheVariants as core
use Rattle.mc_core.specs.Calls.{Begins, Call, Faults}
use Rattle.mc_core.specs.Events.{ReplicaState}
use Rattle.mc_core.specs.Exact.{DecidesAlone, seen_of, stop_front}
use Rattle.mc_core.specs.Refusals.{ByKind, kind_of}
use Rattle.mc_script.specs.declared.reply.Reply.{Reply}

-- what a plan of calls gives for a plan of replies
abbrev pub Gives : {T : Type 0} → (List Event → T → Type 0) → (List Event → Reply → Type 0) → Type 0
Gives {T} P Q = (events : List Event) (value : T) → P events value → (reply : Reply) × Q events reply

begins_by : {T : Type 0} (P : List Event → T → Type 0) (Q : List Event → Reply → Type 0) → Gives P Q → (events : List Event) → Begins P events → Begins Q events
begins_by P Q gives events (inl none) = inl none
begins_by P Q gives events (inr plan) = inr (gives events plan.0 plan.1)

fault_map : (Refused Broken BrokenNow Short : Type 0) (kind : Kind) → (Broken → BrokenNow) → ByKind Refused Broken Short kind → ByKind Refused BrokenNow Short kind
fault_map Refused Broken BrokenNow Short Refusal f holds = holds
fault_map Refused Broken BrokenNow Short Fault f holds = f holds
fault_map Refused Broken BrokenNow Short Shortage f holds = holds

-- a call that did nothing, or not all, under the plan of its command
pub err_call : {T : Type 0} (Due : ReplicaState → Option CoreError → Type 0) (P : ReplicaState → List Event → T → Type 0) (Q : ReplicaState → List Event → Reply → Type 0) (Short : ReplicaState → ReplicaState → Type 0) → ((s : ReplicaState) → Gives (P s) (Q s))
    → (old new : Option ReplicaState) (own : Type 0) (error : CoreError) (result : Result Reply CoreError) → IsErrAnd result (λ e. e ≡ error)
    → Told old new (λ s x. Call (Due s) (P s) (Short s) own (Err error) s x) → Told old new (λ s x. Call (Due s) (Q s) (Short s) own result s x)
err_call Due P Q Short gives old new own error (Ok reply) is call = absurd is
err_call Due P Q Short gives None new own error (Err e) is call = tt
err_call Due P Q Short gives (Some s) None own error (Err e) is call = absurd call
err_call Due P Q Short gives (Some s) (Some x) own error (Err e) is call =
    subst (λ (e : CoreError). Call (Due s) (Q s) (Short s) own (Err e) s x) (sym is)
    (fault_map _ (Faults (P s) own s x) (Faults (Q s) own s x) _ (kind_of error) (λ faults. record { events = faults.events; begins = begins_by (P s) (Q s) (gives s) faults.events faults.begins; breaks = faults.breaks }) call)

-- and one that did all
pub ok_call : {T : Type 0} (Due : ReplicaState → Option CoreError → Type 0) (P : ReplicaState → List Event → T → Type 0) (Q : ReplicaState → List Event → Reply → Type 0) (Short : ReplicaState → ReplicaState → Type 0) (value : T) (reply : Reply)
    → ((s : ReplicaState) (events : List Event) → P s events value → Q s events reply) → (old new : Option ReplicaState) (own : Type 0)
    → Told old new (λ s x. Call (Due s) (P s) (Short s) own (Ok value) s x) → Told old new (λ s x. Call (Due s) (Q s) (Short s) own (Ok reply) s x)
ok_call Due P Q Short value reply plans None new own call = tt
ok_call Due P Q Short value reply plans (Some s) None own call = absurd call
ok_call Due P Q Short value reply plans (Some s) (Some x) own call = record { allowed = call.allowed; events = call.events; makes = plans s call.events call.makes; goes = call.goes }

-- A call that makes no block, and that only a replica refuses that doesn't run, has no other error than a stop, a fault
-- of the keeper and want of memory.

abbrev pub is_ending : CoreError → Bool
is_ending core.KeeperFault = true
is_ending core.Stopped = true
is_ending core.Memory = true
is_ending error = false

abbrev tells_stop : Option CoreError → Bool
tells_stop None = true
tells_stop (Some core.Stopped) = true
tells_stop (Some error) = false

stop_is_told : (stop : Bool) → tells_stop (stop_front stop None) ≡ true
stop_is_told true = refl
stop_is_told false = refl

pub no_other : {P : Type 0} (error : CoreError) (stop : Bool) → is_ending error ≡ false → DecidesAlone error → seen_of error ≡ stop_front stop None → P
no_other core.KeeperFault stop other alone front = absurd (true≢false other)
no_other core.Stopped stop other alone front = absurd (true≢false other)
no_other core.Memory stop other alone front = absurd (true≢false other)
no_other (core.BlockTooLarge len) stop other alone front = absurd (true≢false alone)
no_other core.PriorityFull stop other alone front = absurd (true≢false alone)
no_other (core.Clash cid) stop other alone front = absurd (true≢false alone)
no_other error stop other alone front = absurd (true≢false (sym (ap tells_stop front ∙ stop_is_told stop)))
