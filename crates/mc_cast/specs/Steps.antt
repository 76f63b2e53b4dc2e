-- What one step of a reading leaves.
use Rattle.std.specs.Prelude.{◌≡◌, ℕ, List, [], ◌∷◌, ◌++◌, map, Option, None, Some, IfSome, option_map, ⊤}
use denote.Ref.{Bor}
use Rattle.mc_base.specs.Cid.{cid_digest}
use Rattle.mc_base.specs.declared.cid.Cid.{Cid}
use Rattle.mc_base.specs.WireRead.{fields_of, fronts_from}
use Rattle.mc_wire.specs.Named.{fault_named}
use Rattle.mc_cast.specs.declared.fault.CastFault.TheVariants.{Wire, BadCid}
use Rattle.mc_cast.specs.declared.fault.CastError.{CastError}
use Rattle.mc_cast.specs.declared.fault.CastError.TheVariants.{Memory, Fault}
use Rattle.mc_cast.specs.declared.message.Heads.{Heads}
use Rattle.mc_cast.specs.Cast.{digest_in, fault_in, first_fault, first_unnamed}

-- the bytes that a reference points to
abbrev pub text_of : Bor (List ℕ) → List ℕ
text_of text = text.now

-- the digest of an identifier
abbrev pub digest : Cid → List ℕ
digest cid = cid.0

-- the digest that is named after one more cid, or none more
abbrev pub digest_after : Option (List ℕ) → Option (List ℕ) → Option (List ℕ)
digest_after named None = named
digest_after named (Some bytes) = cid_digest bytes

abbrev pub digests_of : List Cid → List (List ℕ)
digests_of cids = map digest cids

-- what was kept stands for the heads that were read: the digests of all, or of those before the first that names none
pub record StandFor (kept : Heads) (heads : List (Option (List ℕ))) : Type 0 where
  pub all_named : kept.unnamed ≡ None → heads ≡ map Some (digests_of kept.cids)
  pub unnamed : IfSome kept.unnamed (λ index. first_unnamed 0 heads ≡ Some index)

-- what is kept after a field: what one more head names, where the field is a head, and else the same
abbrev pub TakesHead : Option (List ℕ) → Heads → Heads → Type 0
TakesHead None old new = new ≡ old
TakesHead (Some body) old new =
    (named : Option (List ℕ)) × (option_map digest_in (fields_of body) ≡ Some named)
    × (first_fault (fronts_from 0 body) ≡ None)
    × ((heads : List (Option (List ℕ))) → StandFor old heads → StandFor new (heads ++ named ∷ []))

-- an error is the first wire fault of a head, or want of memory
abbrev pub IsFaultIn : Option (List ℕ) → CastError → Type 0
IsFaultIn part Memory = ⊤
IsFaultIn part (Fault (Wire fault)) = fault_in part ≡ Some (fault_named fault)
IsFaultIn part (Fault (BadCid index)) = ⊥
