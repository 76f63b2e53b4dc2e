-- CARv1 files (IPLD CARv1 specification) in this profile: a header of DAG-CBOR with the roots and the version 1, and one
-- section for each block. Each of these is a piece: the varint of its length, and as many bytes.
use Rattle.std.specs.Prelude.{◌≡◌, ℕ, ◌+◌, ◌≤◌, List, [], ◌∷◌, ◌++◌, length, nat_lt, ◌==◌, Bool, true, if◌then◌else◌}
use Rattle.std.specs.List.{flat_map, list_all}
use Rattle.std.specs.Str.{bytes_eq}
use Rattle.mc_base.specs.Cid.{cid_prefix, digest_of}
use Rattle.mc_base.specs.Varint.{IsUnsignedVarint}
use Rattle.mc_base.specs.declared.cid.Cid.{Cid}
use Rattle.mc_car.specs.declared.car.Car.{Car}
use Rattle.mc_car.specs.declared.car.Section.{Section}

-- a map of two, and the text `roots`
abbrev pub header_start : List ℕ
header_start = 0xa2 ∷ 0x65 ∷ 0x72 ∷ 0x6f ∷ 0x6f ∷ 0x74 ∷ 0x73 ∷ []

-- the text `version`, and 1
abbrev pub header_end : List ℕ
header_end = 0x67 ∷ 0x76 ∷ 0x65 ∷ 0x72 ∷ 0x73 ∷ 0x69 ∷ 0x6f ∷ 0x6e ∷ 0x01 ∷ []

-- tag 42, the head of 37 bytes, and the identity multibase
abbrev pub root_start : List ℕ
root_start = 0xd8 ∷ 0x2a ∷ 0x58 ∷ 0x25 ∷ 0x00 ∷ []

-- the 36 bytes of an identifier
abbrev pub cid_bytes : Cid → List ℕ
cid_bytes cid = cid_prefix ++ cid.0

abbrev pub root_bytes : Cid → List ℕ
root_bytes root = root_start ++ cid_bytes root

-- the head of an array of so many
abbrev pub array_head : ℕ → List ℕ
array_head count = if nat_lt count 24 then (0x80 + count) ∷ [] else (0x98 ∷ count ∷ [])

abbrev pub header_bytes : List Cid → List ℕ
header_bytes roots = header_start ++ array_head (length roots) ++ flat_map root_bytes roots ++ header_end

abbrev pub section_body : Section → List ℕ
section_body section = cid_bytes section.cid ++ section.bytes

-- the varint of the length, and the body
pub record IsPiece (bytes body : List ℕ) : Type 0 where
  pub size : List ℕ
  pub parts : bytes ≡ size ++ body
  pub size_is : IsUnsignedVarint size (length body)

-- the text is the concatenation of one piece for each section, in order
abbrev pub AreSections : List ℕ → List Section → Type 0
AreSections text [] = text ≡ []
AreSections text (section ∷ sections) =
    (piece rest : List ℕ) × (text ≡ piece ++ rest) × IsPiece piece (section_body section) × AreSections rest sections

-- the text is the piece of a header with these roots, and then these sections
pub record IsCarText (text : List ℕ) (roots : List Cid) (sections : List Section) : Type 0 where
  pub header : List ℕ
  pub rest : List ℕ
  pub parts : text ≡ header ++ rest
  pub few : length roots ≤ 255
  pub header_is : IsPiece header (header_bytes roots)
  pub rest_is : AreSections rest sections

-- as every digest has: 32 bytes
abbrev pub has_digest : Cid → Bool
has_digest cid = length cid.0 == 32

-- whether the bytes have the identifier
abbrev pub is_named : Section → Bool
is_named section = bytes_eq (digest_of section.bytes) section.cid.0

-- a file whose blocks have the identifiers that they stand under
pub record IsCar (text : List ℕ) (car : Car) : Type 0 where
  pub spelled : IsCarText text car.roots car.sections
  pub digests : list_all has_digest car.roots ≡ true
  pub named : list_all is_named car.sections ≡ true
