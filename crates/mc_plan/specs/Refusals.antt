-- Why a replica refuses: the causes, and the order in which they are looked at.
use Rattle.std.specs.Prelude.{◌≡◌, ⊤, ℕ, Bool, ◌||◌, ◌-◌, ◌^◌, min, nat_lt, List, length, Option, Some, None, Result}
use Rattle.std.specs.Prelude.{if◌then◌else◌}
use Rattle.std.specs.Option.{option_or, option_map}
use Rattle.std.specs.Str.{bytes_eq}
use Rattle.mc_base.specs.declared.cid.Cid.{Cid}
use Rattle.mc_key.specs.KeyRule.{key_fault}
use Rattle.mc_key.specs.declared.fault.KeyFault.{KeyFault}
use Rattle.mc_keep.specs.Causes.{Kind, Refusal, Fault, Shortage, is_fault_kind, fails}
use Rattle.mc_keep.specs.declared.error.KeepError.{KeepError}
use Rattle.mc_keep.specs.declared.error.KeepError.TheVariants.{Failed, Memory as KeepMemory}
use Rattle.mc_model.specs.declared.delta.Delta.{Delta}
use Rattle.mc_model.specs.Front.{is_among}
use Rattle.mc_model.specs.Kept.{Kept, processed, bytes_at}
use Rattle.mc_model.specs.Made.{made_bytes, made_cid, next_priority}
use Rattle.mc_model.specs.Offer.{block_max}
use Rattle.mc_model.specs.State.{OpenBatch, Running}
use Rattle.mc_write.specs.declared.error.WriteError.{WriteError}
use Rattle.mc_write.specs.declared.error.WriteError.TheVariants as write
use Rattle.mc_plan.specs.declared.error.CoreError.{CoreError}
use Rattle.mc_plan.specs.declared.error.CoreError.TheVariants.{BadKey, ValueTooLong, BlockTooLarge, PriorityFull, Clash}
use Rattle.mc_plan.specs.declared.error.CoreError.TheVariants.{KeeperFault, Stopped, BadCast, NoBatch, BatchOpen}
use Rattle.mc_plan.specs.declared.error.CoreError.TheVariants.{Memory}

-- what an error means: the one table of them
abbrev pub kind_of : CoreError → Kind
kind_of (BadKey fault) = Refusal
kind_of ValueTooLong = Refusal
kind_of (BlockTooLarge len) = Refusal
kind_of PriorityFull = Refusal
kind_of (Clash cid) = Refusal
kind_of KeeperFault = Fault
kind_of Stopped = Refusal
kind_of (BadCast fault) = Refusal
kind_of NoBatch = Refusal
kind_of BatchOpen = Refusal
kind_of Memory = Shortage

-- whether the keeper failed
abbrev pub is_fault : {T : Type 0} → Result T CoreError → Bool
is_fault result = fails kind_of result

-- what holds of an error, by what it means
abbrev pub ByKind : Type 0 → Type 0 → Type 0 → Kind → Type 0
ByKind refused failed short Refusal = refused
ByKind refused failed short Fault = failed
ByKind refused failed short Shortage = short

-- a keeper's refusal, and that of a delete's deltas, as a replica's
abbrev pub OfKeeper : KeepError → CoreError → Type 0
OfKeeper Failed error = error ≡ CoreError.KeeperFault
OfKeeper KeepMemory error = error ≡ CoreError.Memory

abbrev pub OfDelete : WriteError → CoreError → Type 0
OfDelete (write.BlockTooLarge len) error = error ≡ CoreError.BlockTooLarge len
OfDelete write.PriorityFull error = error ≡ CoreError.PriorityFull
OfDelete write.Failed error = error ≡ CoreError.KeeperFault
OfDelete write.Memory error = error ≡ CoreError.Memory

-- the bytes of a value that a replica writes
abbrev pub value_max : ℕ
value_max = 262144

-- a refusal of the key, and of the value
abbrev pub key_refusal : List ℕ → Option CoreError
key_refusal key = option_map (λ (fault : KeyFault). BadKey fault) (key_fault key)

abbrev pub value_refusal : List ℕ → Option CoreError
value_refusal value = if nat_lt value_max (length value) then Some ValueTooLong else None

-- no priority is left for a block over what is processed
abbrev pub priority_refusal : Kept → Option CoreError
priority_refusal kept = if nat_lt (next_priority (processed kept)) (2 ^ 64) then None else Some PriorityFull

-- a made block has too many bytes
abbrev pub size_refusal : List ℕ → Option CoreError
size_refusal bytes =
    if nat_lt block_max (length bytes) then Some (BlockTooLarge (min (length bytes) (2 ^ 64 - 1))) else None

-- it is processed already, or other bytes are stored under its identifier
abbrev pub other_refusal : Cid → List ℕ → Option (List ℕ) → Option CoreError
other_refusal cid bytes None = None
other_refusal cid bytes (Some other) = if bytes_eq other bytes then None else Some (Clash cid)

abbrev pub clash_refusal : Kept → Cid → List ℕ → Option CoreError
clash_refusal kept cid bytes =
    if is_among kept.order cid then Some (Clash cid) else other_refusal cid bytes (bytes_at kept.graph cid)

-- the refusal of a block that is made with these links and this delta
abbrev pub made_refusal : Kept → List Cid → Delta → Option CoreError
made_refusal kept links delta =
    option_or (size_refusal (made_bytes links delta))
    (clash_refusal kept (made_cid links delta) (made_bytes links delta))

-- a replica that doesn't run refuses every call, and before all else
abbrev pub running_refusal : Option Running → (Running → Option CoreError) → Option CoreError
running_refusal None refusal = Some Stopped
running_refusal (Some run) refusal = refusal run

-- no batch is open, or one is
abbrev pub no_batch_refusal : Option OpenBatch → (OpenBatch → Option CoreError) → Option CoreError
no_batch_refusal None refusal = Some NoBatch
no_batch_refusal (Some batch) refusal = refusal batch

abbrev pub open_batch_refusal : Option OpenBatch → Option CoreError
open_batch_refusal None = None
open_batch_refusal (Some batch) = Some BatchOpen

-- the refusal that is due is this one, or none
abbrev pub Is : Option CoreError → Option CoreError → Type 0
Is due refusal = refusal ≡ due

-- a refusal is due; a fault of the keeper, and want of memory, always may come
abbrev pub IsDue : (Option CoreError → Type 0) → CoreError → Type 0
IsDue Due error = ByKind (Due (Some error)) ⊤ ⊤ (kind_of error)

-- whether a replica has stopped after this error, where it had or had not
abbrev pub stops : CoreError → Bool → Bool
stops error stop = is_fault_kind (kind_of error) || stop
