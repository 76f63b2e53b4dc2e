-- What the calls that only read answer.
use Rattle.std.specs.Prelude.{◌≡◌, List, [], Option, None}
use Rattle.mc_model.specs.Events.{Event}
use Rattle.mc_model.specs.Kept.{Kept}
use Rattle.mc_model.specs.State.{kept_of}
use Rattle.mc_plan.specs.declared.error.CoreError.{CoreError}
use Rattle.mc_plan.specs.Events.{ReplicaState}
use Rattle.mc_plan.specs.Refusals.{running_refusal}

-- only a replica that doesn't run refuses
abbrev pub read_refusal : ReplicaState → Option CoreError
read_refusal s = running_refusal s.state.run (λ run. None)

-- nothing happens, and the answer is this over what is kept
abbrev pub OnlyReads : {T : Type 0} → (Kept → T → Type 0) → ReplicaState → List Event → T → Type 0
OnlyReads P s events answer = (events ≡ []) × P (kept_of s.state.durable) answer
