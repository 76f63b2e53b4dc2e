-- What the errors of a fetch mean.
use Rattle.std.specs.Prelude.{Bool, true, false, Result, Ok, Err}
use Rattle.mc_fetch.specs.declared.error.FetchError.{FetchError}
use Rattle.mc_fetch.specs.declared.error.FetchError.TheVariants.{Failed, Memory}
use Rattle.mc_keep.specs.declared.error.KeepError.{KeepError}
use Rattle.mc_keep.specs.declared.error.KeepError.TheVariants as keep

-- whether a call of a fetch failed
abbrev pub is_peer_fault : {T : Type 0} → Result T FetchError → Bool
is_peer_fault (Ok value) = false
is_peer_fault (Err Failed) = true
is_peer_fault (Err Memory) = false

-- the error of the same name
abbrev pub error_of : KeepError → FetchError
error_of keep.Failed = Failed
error_of keep.Memory = Memory
