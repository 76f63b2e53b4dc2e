-- The calls on jobs are drains of the wanted blocks.
use Rattle.std.specs.Prelude.{⊤, List, Result, Ok, Err}
use Rattle.mc_base.specs.declared.cid.Cid.{Cid}
use Rattle.mc_model.specs.Draining.{FoundBytes, HasDrained}
use Rattle.mc_model.specs.State.{Durable, IsSound}
use Rattle.mc_plan.specs.declared.error.CoreError.{CoreError}
use Rattle.mc_plan.specs.Events.{ReplicaState}
use Rattle.mc_plan.specs.Refusals.{ByKind, kind_of}

-- wherever a drain of the wanted blocks has begun, it has come further where it had come to the first of these states
abbrev pub DrainsOn : FoundBytes → ReplicaState → ReplicaState → Type 0
DrainsOn bytes_of s new =
    (kept : List Cid) (old : Durable) (start : List Cid) → IsSound s.state → HasDrained bytes_of kept old start s.state
    → HasDrained bytes_of kept old start new.state

-- the same of a call that did not fail
abbrev pub CallDrains : {T : Type 0} → FoundBytes → Result T CoreError → ReplicaState → ReplicaState → Type 0
CallDrains bytes_of (Ok value) s new = DrainsOn bytes_of s new
CallDrains bytes_of (Err error) s new = ByKind (DrainsOn bytes_of s new) ⊤ (DrainsOn bytes_of s new) (kind_of error)
