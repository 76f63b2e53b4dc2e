-- What a reading of a broadcast answers.
use Rattle.std.specs.Prelude.{◌≡◌, ◌↔◌, ℕ, List, map, length, All, Option, None, Some, IsSome, ⊤}
use Rattle.mc_base.specs.WireRead.{fronts_from}
use Rattle.mc_wire.specs.Named.{fault_named}
use Rattle.mc_cast.specs.Cast.{cast_bytes, cast_fault, first_unnamed, heads_of}
use Rattle.mc_cast.specs.declared.fault.CastFault.{CastFault}
use Rattle.mc_cast.specs.declared.fault.CastFault.TheVariants.{Wire, BadCid}
use Rattle.mc_cast.specs.declared.fault.CastError.{CastError}
use Rattle.mc_cast.specs.declared.fault.CastError.TheVariants.{Memory, Fault}

-- a message without a wire fault, each of whose heads names an identifier: those with these digests, in order
pub record IsCast (text : List ℕ) (digests : List (List ℕ)) : Type 0 where
  pub sound : cast_fault (fronts_from 0 text) ≡ None
  pub heads : heads_of text ≡ Some (map Some digests)

-- a message without a wire fault whose head at this place is the first that names no identifier
pub record IsUnnamed (text : List ℕ) (index : ℕ) : Type 0 where
  pub sound : cast_fault (fronts_from 0 text) ≡ None
  pub heads : List (Option (List ℕ))
  pub are : heads_of text ≡ Some heads
  pub first : first_unnamed 0 heads ≡ Some index

abbrev pub IsFault : List ℕ → CastFault → Type 0
IsFault text (Wire fault) = cast_fault (fronts_from 0 text) ≡ Some (fault_named fault)
IsFault text (BadCid index) = IsUnnamed text index

-- an error is the fault of what was read, or want of memory
abbrev pub IsFaultOf : List ℕ → CastError → Type 0
IsFaultOf text Memory = ⊤
IsFaultOf text (Fault fault) = IsFault text fault

-- what was written is read again
abbrev pub IsReadAgain : Type 0
IsReadAgain =
    (digests : List (List ℕ)) → All (λ digest. length digest ≡ 32) digests → IsCast (cast_bytes digests) digests

-- a message has no wire fault exactly where it and its heads are made of fields
abbrev pub IsSoundWhole : Type 0
IsSoundWhole = (text : List ℕ) → (cast_fault (fronts_from 0 text) ≡ None) ↔ IsSome (heads_of text)
