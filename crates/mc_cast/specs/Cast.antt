-- A broadcast by its fields (Protocol Buffers encoding): a head is a field 1 of wire type 2, and its cid is the last
-- such field in it. Other fields count for nothing.
use Rattle.std.specs.Prelude.{ℕ, ◌+◌, List, [], ◌∷◌, ◌++◌, Option, None, Some, option_map, option_and_then, unwrap_or}
use Rattle.std.specs.List.{flat_map}
use Rattle.mc_base.specs.Cid.{cid_prefix, cid_digest}
use Rattle.mc_base.specs.Wire.{Field, part_of, parts_of}
use Rattle.mc_base.specs.WireRead.{Front, NoKey, NoContent, Whole, Placed, WireFault, fault_of, fields_of, fronts_from}

-- the last part, where there is one
abbrev pub last_of : List (List ℕ) → Option (List ℕ)
last_of [] = None
last_of (part ∷ parts) = Some (unwrap_or (last_of parts) part)

-- the digest of the identifier that a head with these fields names, where it names one
abbrev pub digest_in : List Field → Option (List ℕ)
digest_in fields = option_and_then cid_digest (last_of (parts_of 1 fields))

-- what heads with these bytes name, in order, where each is made of fields
abbrev pub named_by : List (List ℕ) → Option (List (Option (List ℕ)))
named_by [] = Some []
named_by (body ∷ bodies) =
    option_and_then (λ fields. option_map (λ others. digest_in fields ∷ others) (named_by bodies)) (fields_of body)

-- what the heads of a message with these fields name
abbrev pub heads_in : List Field → Option (List (Option (List ℕ)))
heads_in fields = named_by (parts_of 1 fields)

-- what the heads of a message name, where the message and each head are made of fields
abbrev pub heads_of : List ℕ → Option (List (Option (List ℕ)))
heads_of text = option_and_then heads_in (fields_of text)

-- the place of the first head that names no identifier, counted from `at`
abbrev pub first_unnamed : ℕ → List (Option (List ℕ)) → Option ℕ
first_unnamed at [] = None
first_unnamed at (None ∷ heads) = Some at
first_unnamed at (Some digest ∷ heads) = first_unnamed (at + 1) heads

-- the first of two faults
abbrev pub or_fault : Option WireFault → Option WireFault → Option WireFault
or_fault None second = second
or_fault (Some fault) second = Some fault

-- the first wire fault of a text, from left to right
abbrev pub first_fault : List Placed → Option WireFault
first_fault [] = None
first_fault (placed ∷ rest) = or_fault (fault_of placed.front) (first_fault rest)

-- the first wire fault in what a field holds, where it is a head
abbrev pub fault_in : Option (List ℕ) → Option WireFault
fault_in None = None
fault_in (Some body) = first_fault (fronts_from 0 body)

-- the first wire fault of what stands at a place, with a look into a head
abbrev pub fault_at : Front → Option WireFault
fault_at (NoKey fault) = Some fault
fault_at (NoContent number wire fault) = Some fault
fault_at (Whole field len) = fault_in (part_of 1 field)

-- the first wire fault of a message, from left to right, with a look into each head when it is met
abbrev pub cast_fault : List Placed → Option WireFault
cast_fault [] = None
cast_fault (placed ∷ rest) = or_fault (fault_at placed.front) (cast_fault rest)

-- the written head of a digest: field 1 of 38 bytes, and in it field 1 with the 36 bytes of the identifier
abbrev pub head_bytes : List ℕ → List ℕ
head_bytes digest = 0x0a ∷ 0x26 ∷ 0x0a ∷ 0x24 ∷ (cid_prefix ++ digest)

-- the written message of the identifiers with these digests
abbrev pub cast_bytes : List (List ℕ) → List ℕ
cast_bytes digests = flat_map head_bytes digests
