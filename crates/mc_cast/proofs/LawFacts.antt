-- Messages without a wire fault, and written ones.
use Rattle.std.proofs.Common.{◌≡◌, ℕ, ◌<◌, ◌≤◌, ◌^◌, List, [], ◌∷◌, ◌++◌, length, map, Option, None, Some, append-nil, subst, refl, sym, arith}
use Rattle.std.specs.Prelude.{option_map, option_and_then, IsSome, ◌↔◌}
use Rattle.std.specs.List.{cons_option, AllByRecursion}
use Rattle.mc_base.specs.Cid.{CidsAreRead, cid_prefix}
use Rattle.mc_base.specs.Wire.{Field, Fields, IsPiece, Part, part_field_bytes, part_of, parts_of, varint_bytes}
use Rattle.mc_base.specs.WireRead.{Front, NoKey, NoContent, Placed, WireFault, Whole, fault_of, fields_in, fields_of, fronts_from, onto_fields}
use Rattle.mc_cast.specs.Cast.{cast_bytes, cast_fault, digest_in, fault_at, fault_in, first_fault, head_bytes, heads_in, heads_of, named_by, or_fault}
use Rattle.mc_cast.specs.Reads.{IsCast}

-- ---- no fault, and fields

none_of_two : (first second : Option WireFault) → or_fault first second ≡ None → (first ≡ None) × (second ≡ None)
none_of_two None second h = (refl, h)
none_of_two (Some fault) second h = absurd (cc)

-- fronts without a fault are fields, and fields have no fault
front_some : (front : Front) (rest : Option (List Field)) → fault_of front ≡ None → IsSome rest → IsSome (onto_fields front rest)
front_some (NoKey fault) rest none some = absurd (cc)
front_some (NoContent number wire fault) rest none some = absurd (cc)
front_some (Whole field len) None none some = absurd (cc)
front_some (Whole field len) (Some fields) none some = refl

front_none : (front : Front) (rest : Option (List Field)) → IsSome (onto_fields front rest) → (fault_of front ≡ None) × IsSome rest
front_none (NoKey fault) rest some = absurd (cc)
front_none (NoContent number wire fault) rest some = absurd (cc)
front_none (Whole field len) None some = absurd (cc)
front_none (Whole field len) (Some fields) some = (refl, refl)

some_fields : (fronts : List Placed) → first_fault fronts ≡ None → IsSome (fields_in fronts)
some_fields [] h = refl
some_fields (placed ∷ rest) h =
    let both = none_of_two (fault_of placed.front) (first_fault rest) h in
    front_some placed.front (fields_in rest) both.0 (some_fields rest both.1)

no_fault : (fronts : List Placed) → IsSome (fields_in fronts) → first_fault fronts ≡ None
no_fault [] some = refl
no_fault (placed ∷ rest) some =
    let both = front_none placed.front (fields_in rest) some in
    rw (both.0, no_fault rest both.1) refl

-- ---- the same with a look into the heads

both_some : (fields : Option (List Field)) (others : Option (List (Option (List ℕ)))) → IsSome fields → IsSome others → IsSome (option_and_then (λ body. option_map (λ rest. digest_in body ∷ rest) others) fields)
both_some None others some some' = absurd (cc)
both_some (Some fields) None some some' = absurd (cc)
both_some (Some fields) (Some others) some some' = refl

some_both : (fields : Option (List Field)) (others : Option (List (Option (List ℕ)))) → IsSome (option_and_then (λ body. option_map (λ rest. digest_in body ∷ rest) others) fields) → IsSome fields × IsSome others
some_both None others some = absurd (cc)
some_both (Some fields) None some = absurd (cc)
some_both (Some fields) (Some others) some = (refl, refl)

part_some : (part : Option (List ℕ)) (bodies : List (List ℕ)) → fault_in part ≡ None → IsSome (named_by bodies) → IsSome (named_by (cons_option part bodies))
part_some None bodies none some = some
part_some (Some body) bodies none some = both_some (fields_of body) (named_by bodies) (some_fields (fronts_from 0 body) none) some

part_none : (part : Option (List ℕ)) (bodies : List (List ℕ)) → IsSome (named_by (cons_option part bodies)) → (fault_in part ≡ None) × IsSome (named_by bodies)
part_none None bodies some = (refl, some)
part_none (Some body) bodies some =
    let both = some_both (fields_of body) (named_by bodies) some in
    (no_fault (fronts_from 0 body) both.0, both.1)

head_some : (front : Front) (rest : Option (List Field)) → fault_at front ≡ None → IsSome (option_and_then heads_in rest) → IsSome (option_and_then heads_in (onto_fields front rest))
head_some (NoKey fault) rest none some = absurd (cc)
head_some (NoContent number wire fault) rest none some = absurd (cc)
head_some (Whole field len) None none some = absurd (cc)
head_some (Whole field len) (Some fields) none some = part_some (part_of 1 field) (parts_of 1 fields) none some

head_none : (front : Front) (rest : Option (List Field)) → IsSome (option_and_then heads_in (onto_fields front rest)) → (fault_at front ≡ None) × IsSome (option_and_then heads_in rest)
head_none (NoKey fault) rest some = absurd (cc)
head_none (NoContent number wire fault) rest some = absurd (cc)
head_none (Whole field len) None some = absurd (cc)
head_none (Whole field len) (Some fields) some = part_none (part_of 1 field) (parts_of 1 fields) some

some_heads : (fronts : List Placed) → cast_fault fronts ≡ None → IsSome (option_and_then heads_in (fields_in fronts))
some_heads [] h = refl
some_heads (placed ∷ rest) h =
    let both = none_of_two (fault_at placed.front) (cast_fault rest) h in
    head_some placed.front (fields_in rest) both.0 (some_heads rest both.1)

no_cast_fault : (fronts : List Placed) → IsSome (option_and_then heads_in (fields_in fronts)) → cast_fault fronts ≡ None
no_cast_fault [] some = refl
no_cast_fault (placed ∷ rest) some =
    let both = head_none placed.front (fields_in rest) some in
    rw (both.0, no_cast_fault rest both.1) refl

pub sound_whole : (text : List ℕ) → (cast_fault (fronts_from 0 text) ≡ None) ↔ IsSome (heads_of text)
sound_whole text = (some_heads (fronts_from 0 text), no_cast_fault (fronts_from 0 text))

-- ---- what is written

-- the fields of a written head, and of its message
abbrev cid_field : List ℕ → Field
cid_field digest = record { number = 1; content = Part (cid_prefix ++ digest) }

abbrev head_field : List ℕ → Field
head_field digest = record { number = 1; content = Part (0x0a ∷ 0x24 ∷ (cid_prefix ++ digest)) }

ten : varint_bytes 10 ≡ 10 ∷ []
unfolding varint_bytes
ten = refl

thirty_six : varint_bytes 36 ≡ 36 ∷ []
unfolding varint_bytes
thirty_six = refl

thirty_eight : varint_bytes 38 ≡ 38 ∷ []
unfolding varint_bytes
thirty_eight = refl

-- a part field of number 1 is a piece
abbrev pub PartsAreWritten : Type 0
PartsAreWritten = (number : ℕ) (part : List ℕ) → 1 ≤ number → number ≤ 15 → length part < 2 ^ 64 → IsPiece (part_field_bytes number part) (record { number = number; content = Part part })

cid_piece : PartsAreWritten → (digest : List ℕ) → length digest ≡ 32 → IsPiece (0x0a ∷ 0x24 ∷ (cid_prefix ++ digest)) (cid_field digest)
cid_piece written digest len =
    let size : length (cid_prefix ++ digest) ≡ 36 = rw len refl in
    let piece = written 1 (cid_prefix ++ digest) (omega arith) (omega arith) (omega (arith, size)) in
    let spelled : part_field_bytes 1 (cid_prefix ++ digest) ≡ 0x0a ∷ 0x24 ∷ (cid_prefix ++ digest) = rw (size, ten, thirty_six) refl in
    subst (λ (bytes : List ℕ). IsPiece bytes (cid_field digest)) spelled piece

head_piece : PartsAreWritten → (digest : List ℕ) → length digest ≡ 32 → IsPiece (head_bytes digest) (head_field digest)
head_piece written digest len =
    let size : length (0x0a ∷ 0x24 ∷ (cid_prefix ++ digest)) ≡ 38 = rw len refl in
    let piece = written 1 (0x0a ∷ 0x24 ∷ (cid_prefix ++ digest)) (omega arith) (omega arith) (omega (arith, size)) in
    let spelled : part_field_bytes 1 (0x0a ∷ 0x24 ∷ (cid_prefix ++ digest)) ≡ head_bytes digest = rw (size, ten, thirty_eight) refl in
    subst (λ (bytes : List ℕ). IsPiece bytes (head_field digest)) spelled piece

message_fields : PartsAreWritten → (digests : List (List ℕ)) → AllByRecursion (λ digest. length digest ≡ 32) digests → Fields (cast_bytes digests) (map head_field digests)
message_fields written [] all = refl
message_fields written (digest ∷ digests) all = (head_bytes digest, cast_bytes digests, refl, head_piece written digest all.0, message_fields written digests all.1)

abbrev pub FieldsAreRead : Type 0
FieldsAreRead = (text : List ℕ) (fields : List Field) → Fields text fields → fields_of text ≡ Some fields

heads_named : PartsAreWritten → FieldsAreRead → CidsAreRead → (digests : List (List ℕ)) → AllByRecursion (λ digest. length digest ≡ 32) digests → heads_in (map head_field digests) ≡ Some (map Some digests)
heads_named written read cids [] all = refl
heads_named written read cids (digest ∷ digests) all =
    let body : List ℕ = 0x0a ∷ 0x24 ∷ (cid_prefix ++ digest) in
    let one : Fields body (cid_field digest ∷ []) = (body, [], sym (append-nil body), cid_piece written digest all.0, refl) in
    let fields = read body (cid_field digest ∷ []) one in
    let rest = heads_named written read cids digests all.1 in
    rw (fields, rest, cids digest all.0) refl

pub read_again : PartsAreWritten → FieldsAreRead → CidsAreRead → (digests : List (List ℕ)) → AllByRecursion (λ digest. length digest ≡ 32) digests → IsCast (cast_bytes digests) digests
read_again written read cids digests all =
    let fields = read (cast_bytes digests) (map head_field digests) (message_fields written digests all) in
    let heads : heads_of (cast_bytes digests) ≡ Some (map Some digests) = rw fields (heads_named written read cids digests all) in
    let some : IsSome (heads_of (cast_bytes digests)) = rw heads refl in
    record { sound = (sound_whole (cast_bytes digests)).1 some; heads = heads }
