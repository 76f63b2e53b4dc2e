-- What a call that makes a desk answers, in the words of its keeper.
use Rattle.std.specs.Prelude.{Bool, true, false, Result, Ok, Err}
use Rattle.mc_keep.specs.declared.error.KeepError.{KeepError}
use Rattle.mc_keep.specs.declared.error.KeepError.TheVariants.{Failed, Memory}
use Rattle.mc_plan.specs.declared.error.CoreError.{CoreError}
use Rattle.mc_plan.specs.Refusals.{is_fault}

-- an answer that is no Ok, by whether the keeper failed
abbrev pub kept_error : Bool → KeepError
kept_error true = Failed
kept_error false = Memory

-- the keeper's answer
abbrev pub kept_result : {T : Type 0} → Result T CoreError → Result T KeepError
kept_result (Ok value) = Ok value
kept_result {T} (Err error) = Err (kept_error (is_fault {T = T} (Err error)))
