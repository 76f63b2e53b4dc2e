-- What a fetch tells.
use Rattle.std.specs.Prelude.{◌≡◌, ⊤, ℕ, Bool, List, Option, Some, None, if◌then◌else◌, slice_get}
use Rattle.std.specs.List.{flat_map}
use Rattle.std.specs.Option.{option_map}
use Rattle.std.specs.Str.{bytes_eq}
use Rattle.mc_base.specs.Cid.{digest_of}
use Rattle.mc_base.specs.declared.cid.Cid.{Cid}
use Rattle.mc_model.specs.Found.{option_list, found_bytes}

-- for each block, what each place offers: bytes, or nothing
abbrev pub Offered : Type 0
Offered = Cid → List (Option (List ℕ))

-- what a place answers, where it is a leading one and it is known what it offers
abbrev pub IsLeading : List (Option (List ℕ)) → ℕ → Option (List ℕ) → Type 0
IsLeading leading place bytes = (offer : Option (List ℕ)) → slice_get leading place ≡ Some offer → bytes ≡ offer

-- the bytes that are offered, in the order of the places
abbrev pub listed : List (Option (List ℕ)) → List (List ℕ)
listed offers = flat_map option_list offers

-- the bytes of the first offer whose digest names the block
abbrev pub first_offer : Cid → List (Option (List ℕ)) → Option (List ℕ)
first_offer cid offers = found_bytes (listed offers) cid

-- what is found for each block, where the offers are told
abbrev pub found_by : Option Offered → Option (Cid → Option (List ℕ))
found_by offers = option_map (λ offered cid. first_offer cid (offered cid)) offers

-- the bytes have the digest that names the block
abbrev pub HasDigest : Cid → List ℕ → Type 0
HasDigest cid bytes = digest_of bytes ≡ cid.0

-- whether the digest of the bytes names the block
abbrev pub names : Cid → List ℕ → Bool
names cid bytes = bytes_eq (digest_of bytes) cid.0

-- an offer, where its digest names the block
abbrev pub matching : Cid → Option (List ℕ) → Option (List ℕ)
matching cid None = None
matching cid (Some bytes) = if names cid bytes then Some bytes else None

-- the bytes of the first leading offer whose digest names a block, which are found whatever the other places offer
abbrev pub surely_by : Offered → Cid → Option (List ℕ)
surely_by leading cid = first_offer cid (leading cid)

-- what was found, where it is known which bytes are found whatever the other places offer
abbrev pub IsSurely : Option (List ℕ) → Option (List ℕ) → Type 0
IsSurely None bytes = ⊤
IsSurely (Some sure) bytes = bytes ≡ Some sure

-- and what a place answers that matches, where it is a leading one
abbrev pub MatchesLeading : Cid → List (Option (List ℕ)) → ℕ → Option (List ℕ) → Type 0
MatchesLeading cid leading place bytes =
    (offer : Option (List ℕ)) → slice_get leading place ≡ Some offer → bytes ≡ matching cid offer
