-- What a delete's errors mean, and when it may answer that its keeper failed.
use Rattle.std.specs.Prelude.{◌≡◌, Bool, Result}
use Rattle.mc_keep.specs.Causes.{Kind, Refusal, Fault, Shortage, fails}
use Rattle.mc_keep.specs.declared.error.KeepError.{KeepError}
use Rattle.mc_keep.specs.declared.error.KeepError.TheVariants.{Failed, Memory}
use Rattle.mc_write.specs.declared.error.WriteError.{WriteError}
use Rattle.mc_write.specs.declared.error.WriteError.TheVariants.{BlockTooLarge, PriorityFull, Failed as KeeperFailed}
use Rattle.mc_write.specs.declared.error.WriteError.TheVariants.{Memory as NoMemory}

-- a keeper's refusal, as a delete's
abbrev pub IsKeepers : KeepError → WriteError → Type 0
IsKeepers Failed error = error ≡ WriteError.Failed
IsKeepers Memory error = error ≡ WriteError.Memory

-- what an error means
abbrev pub write_kind : WriteError → Kind
write_kind (BlockTooLarge len) = Refusal
write_kind PriorityFull = Refusal
write_kind KeeperFailed = Fault
write_kind NoMemory = Shortage

-- whether the keeper failed
abbrev pub is_fault : {T : Type 0} → Result T WriteError → Bool
is_fault result = fails write_kind result
