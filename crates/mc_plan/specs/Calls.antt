-- What a call of a replica does: it is refused and changes nothing, or it is a list of events, or these are cut short
-- by a fault of the keeper.
use Rattle.std.specs.Prelude.{◌≡◌, ◌⊎◌, List, [], Option, Some, None, Result, Ok, Err}
use Rattle.mc_model.specs.Events.{Event}
use Rattle.mc_plan.specs.declared.error.CoreError.{CoreError}
use Rattle.mc_plan.specs.Events.{ReplicaState, Goes, Breaks}
use Rattle.mc_plan.specs.Refusals.{ByKind, kind_of}

-- the events that a call makes, or none: none are known where a call failed before its first commit
abbrev pub Begins : {T : Type 0} → (List Event → T → Type 0) → List Event → Type 0
Begins {T} Makes events = (events ≡ []) ⊎ ((value : T) × Makes events value)

-- nothing refuses the call, and all its events have happened
pub record Does {T : Type 0} (Refusal : Option CoreError → Type 0) (Makes : List Event → T → Type 0) (value : T)
    (s new : ReplicaState) : Type 0 where
  pub allowed : Refusal None
  pub events : List Event
  pub makes : Makes events value
  pub goes : Goes events s new

-- its events are cut short
pub record Faults {T : Type 0} (Makes : List Event → T → Type 0) (rose : Type 0) (s new : ReplicaState) : Type 0 where
  pub events : List Event
  pub begins : Begins Makes events
  pub breaks : Breaks events rose s new

-- the call is refused for this cause, and nothing has changed
abbrev pub IsRefused : (Option CoreError → Type 0) → CoreError → ReplicaState → ReplicaState → Type 0
IsRefused Refusal error s new = Refusal (Some error) × (new ≡ s)

-- what a want of memory leaves, but of a delete: the replica as it was
abbrev pub Stays : ReplicaState → ReplicaState → Type 0
Stays s left = left ≡ s

-- The clause of every call: `Refusal` says which refusal is due, `Makes` which events the call makes with which answer,
-- and `Short` what a want of memory leaves.
abbrev pub Call : {T : Type 0} → (Option CoreError → Type 0) → (List Event → T → Type 0) → (ReplicaState → Type 0) →
    Type 0
    → Result T CoreError → ReplicaState → ReplicaState → Type 0
Call Refusal Makes Short rose (Ok value) s new = Does Refusal Makes value s new
Call Refusal Makes Short rose (Err error) s new =
    ByKind (IsRefused Refusal error s new) (Faults Makes rose s new) (Short new) (kind_of error)
