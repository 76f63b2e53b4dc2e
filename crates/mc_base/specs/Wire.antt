-- Fields in the Protocol Buffers wire format (Protocol Buffers documentation, "Encoding": "Base 128 Varints" and
-- "Message Structure").
use Rattle.std.specs.Prelude.{◌≡◌, ℕ, zero, suc, ◌+◌, ◌*◌, ◌/◌, ◌%◌, ◌<◌, ◌≤◌, List, [], ◌∷◌, ◌++◌, length, Bool}
use Rattle.std.specs.Prelude.{IsTrue, nat_le, nat_lt, ◌==◌, if◌then◌else◌, Option, Some, None}
use Rattle.std.specs.List.{list_all, filter_map}

-- a byte after which its varint goes on: its high bit is set
abbrev pub goes_on : ℕ → Bool
goes_on byte = nat_le 128 byte

-- the sum of the low seven bits of byte i times 128 to the power i
abbrev pub groups_value : List ℕ → ℕ
groups_value [] = 0
groups_value (byte ∷ bytes) = byte % 128 + 128 * groups_value bytes

-- a varint by its bytes and value: 1 to 10 bytes, of which all but the last have the high bit and a tenth is at most 1
pub record IsVarint (bytes : List ℕ) (value : ℕ) : Type 0 where
  pub first : List ℕ
  pub last : ℕ
  pub parts : bytes ≡ first ++ last ∷ []
  pub first_go_on : IsTrue (list_all goes_on first)
  pub last_ends : last < 128
  pub at_most_ten : length first ≤ 9
  pub tenth_fits : length first ≡ 9 → last ≤ 1
  pub sum : value ≡ groups_value bytes

-- what a field holds: the value of a varint, 8 bytes, any number of bytes, or 4 bytes
pub data Content : Type 0 where
  Varint : ℕ → Content
  Fixed64 : List ℕ → Content
  Part : List ℕ → Content
  Fixed32 : List ℕ → Content

pub record Field : Type 0 where
  pub number : ℕ
  pub content : Content

abbrev pub wire_type : Content → ℕ
wire_type (Varint value) = 0
wire_type (Fixed64 bytes) = 1
wire_type (Part bytes) = 2
wire_type (Fixed32 bytes) = 5

-- the bytes that a content with the wire type of bytes holds
abbrev pub bytes_held : Content → Option (List ℕ)
bytes_held (Part bytes) = Some bytes
bytes_held content = None

-- the bytes that a field of this number holds, where it has the wire type of bytes
abbrev pub part_of : ℕ → Field → Option (List ℕ)
part_of number field = if field.number == number then bytes_held field.content else None

-- the bytes of the fields of this number, in order
abbrev pub parts_of : ℕ → List Field → List (List ℕ)
parts_of number fields = filter_map (part_of number) fields

-- the bytes of a content
abbrev pub IsContent : List ℕ → Content → Type 0
IsContent bytes (Varint value) = IsVarint bytes value
IsContent bytes (Fixed64 fixed) = (bytes ≡ fixed) × (length fixed ≡ 8)
IsContent bytes (Part part) = (size : List ℕ) × (bytes ≡ size ++ part) × IsVarint size (length part)
IsContent bytes (Fixed32 fixed) = (bytes ≡ fixed) × (length fixed ≡ 4)

-- a piece is a key, which is a varint of number and wire type, and the content of that wire type
pub record IsPiece (bytes : List ℕ) (field : Field) : Type 0 where
  pub key : List ℕ
  pub body : List ℕ
  pub parts : bytes ≡ key ++ body
  pub numbered : 1 ≤ field.number
  pub key_is : IsVarint key (8 * field.number + wire_type field.content)
  pub body_is : IsContent body field.content

-- the text is the concatenation of one piece for each field, in order
abbrev pub Fields : List ℕ → List Field → Type 0
Fields text [] = text ≡ []
Fields text (field ∷ fields) = (piece rest : List ℕ) × (text ≡ piece ++ rest) × IsPiece piece field × Fields rest fields

-- the varint of a value that has no byte more than it needs; `most` bounds the number of its bytes
abbrev pub varint_bytes_within : ℕ → ℕ → List ℕ
varint_bytes_within zero value = []
varint_bytes_within (suc most) value =
    if nat_lt value 128 then (value ∷ []) else ((value % 128 + 128) ∷ varint_bytes_within most (value / 128))

unfoldable pub varint_bytes : ℕ → List ℕ
varint_bytes value = varint_bytes_within (suc value) value

-- the written spellings of two fields
abbrev pub varint_field_bytes : ℕ → ℕ → List ℕ
varint_field_bytes number value = varint_bytes (8 * number) ++ varint_bytes value

abbrev pub part_head_bytes : ℕ → ℕ → List ℕ
part_head_bytes number len = varint_bytes (8 * number + 2) ++ varint_bytes len

abbrev pub part_field_bytes : ℕ → List ℕ → List ℕ
part_field_bytes number part = part_head_bytes number (length part) ++ part
