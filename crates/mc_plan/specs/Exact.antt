-- What a call of a replica answers and leaves over every keeper, also over one that tells nothing.
use Rattle.std.specs.Prelude.{◌≡◌, ◌≢◌, ⊤, Bool, true, false, List, ℕ, Option, Some, None, Result, Ok, Err, IfErr}
use Rattle.std.specs.Option.{option_or}
use Rattle.mc_plan.specs.declared.error.CoreError.{CoreError}
use Rattle.mc_plan.specs.declared.error.CoreError.TheVariants.{BadKey, ValueTooLong, BlockTooLarge, PriorityFull, Clash}
use Rattle.mc_plan.specs.declared.error.CoreError.TheVariants.{KeeperFault, Stopped, BadCast, NoBatch, BatchOpen}
use Rattle.mc_plan.specs.declared.error.CoreError.TheVariants.{Memory}
use Rattle.mc_plan.specs.Refusals.{ByKind, kind_of, key_refusal, value_refusal}

-- the refusals that a replica decides without a look at its keeper
abbrev pub seen_of : CoreError → Option CoreError
seen_of (BadKey fault) = Some (BadKey fault)
seen_of ValueTooLong = Some ValueTooLong
seen_of (BlockTooLarge len) = None
seen_of PriorityFull = None
seen_of (Clash cid) = None
seen_of KeeperFault = None
seen_of Stopped = Some Stopped
seen_of (BadCast fault) = Some (BadCast fault)
seen_of NoBatch = Some NoBatch
seen_of BatchOpen = Some BatchOpen
seen_of Memory = None

-- that of an answer
abbrev pub front_of : {T : Type 0} → Result T CoreError → Option CoreError
front_of (Ok value) = None
front_of (Err error) = seen_of error

-- one that has stopped refuses before all else
abbrev pub stop_front : Bool → Option CoreError → Option CoreError
stop_front true due = Some Stopped
stop_front false due = due

-- that of a put
abbrev pub put_front : List ℕ → List ℕ → Option CoreError
put_front key value = option_or (key_refusal key) (value_refusal value)

-- no call here answers Memory
abbrev pub NoMemory : {T : Type 0} → Result T CoreError → Type 0
NoMemory result = IfErr result (λ error. error ≢ Memory)

-- what holds of every answer but an Ok and a fault, and of every refusal
abbrev pub IfRefusedOrShort : {T : Type 0} → Result T CoreError → Type 0 → Type 0
IfRefusedOrShort result P = IfErr result (λ error. ByKind P ⊤ P (kind_of error))

abbrev pub IfRefused : {T : Type 0} → Result T CoreError → Type 0 → Type 0
IfRefused result P = IfErr result (λ error. ByKind P ⊤ ⊤ (kind_of error))
