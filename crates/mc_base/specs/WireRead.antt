-- The fields of a text from left to right, with their offsets, and the first fault.
use Rattle.std.specs.Prelude.{ℕ, zero, suc, ◌+◌, ◌-◌, ◌/◌, ◌%◌, ◌==◌, List, [], ◌∷◌, length, take, drop, Bool, true}
use Rattle.std.specs.Prelude.{false, nat_le, nat_lt, ◌&&◌, if◌then◌else◌, Option, Some, None, Result, Ok, Err}
use Rattle.std.specs.Prelude.{option_map}
use Rattle.std.specs.List.{prefix_len}
use Rattle.mc_base.specs.Wire.{goes_on, groups_value, Field, Content, Varint, Fixed64, Part, Fixed32}

-- why no field can be read
pub data WireFault : Type 0 where
  Short : WireFault
  LongVarint : WireFault
  WireType : WireFault
  FieldZero : WireFault

-- a tenth byte above 1
abbrev pub has_no_room : List ℕ → Bool
has_no_room [] = false
has_no_room (tenth ∷ bytes) = nat_lt 1 tenth

-- the value and the length of the varint at the front of a text
unfoldable pub front_varint : List ℕ → Result (ℕ × ℕ) WireFault
front_varint text =
    if nat_le 9 (prefix_len goes_on text) && has_no_room (drop 9 text) then Err LongVarint
    else (if nat_le (length text) (prefix_len goes_on text) then Err Short
    else Ok (groups_value (take (prefix_len goes_on text + 1) text), prefix_len goes_on text + 1))

-- a number of bytes of a text, past the first few
abbrev pub front_bytes : (List ℕ → Content) → ℕ → ℕ → List ℕ → Result (Content × ℕ) WireFault
front_bytes make skip count text =
    if nat_le count (length (drop skip text)) then Ok (make (take count (drop skip text)), skip + count) else Err Short

abbrev pub content_varint : Result (ℕ × ℕ) WireFault → Result (Content × ℕ) WireFault
content_varint (Ok read) = Ok (Varint read.0, read.1)
content_varint (Err fault) = Err fault

-- a length, and as many bytes
abbrev pub content_part : Result (ℕ × ℕ) WireFault → List ℕ → Result (Content × ℕ) WireFault
content_part (Ok read) text = front_bytes Part read.1 read.0 text
content_part (Err fault) text = Err fault

-- the content of this wire type at the front of a text, and its length
abbrev pub front_content : ℕ → List ℕ → Result (Content × ℕ) WireFault
front_content wire text =
    if wire == 0 then content_varint (front_varint text)
    else (if wire == 1 then front_bytes Fixed64 0 8 text
    else (if wire == 2 then content_part (front_varint text) text
    else (if wire == 5 then front_bytes Fixed32 0 4 text
    else Err WireType)))

-- what stands at the front of a text that isn't empty: no key; a key of this number and wire type, without a content;
-- or a field and its length
pub data Front : Type 0 where
  NoKey : WireFault → Front
  NoContent : ℕ → ℕ → WireFault → Front
  Whole : Field → ℕ → Front

abbrev pub front_field : ℕ → ℕ → ℕ → Result (Content × ℕ) WireFault → Front
front_field number wire len (Ok read) = Whole (record { number = number; content = read.0 }) (len + read.1)
front_field number wire len (Err fault) = NoContent number wire fault

-- after a key of this number, wire type and length, where this rest stands
abbrev pub after_key : ℕ → ℕ → ℕ → List ℕ → Front
after_key number wire len rest =
    if number == 0 then NoContent 0 wire FieldZero else front_field number wire len (front_content wire rest)

-- after a key of this value and length
abbrev pub front_keyed : Result (ℕ × ℕ) WireFault → List ℕ → Front
front_keyed (Ok key) text = after_key (key.0 / 8) (key.0 % 8) key.1 (drop key.1 text)
front_keyed (Err fault) text = NoKey fault

unfoldable pub front_of : List ℕ → Front
front_of text = front_keyed (front_varint text) text

-- a front with the offset of its key
pub record Placed : Type 0 where
  pub at : ℕ
  pub front : Front

abbrev pub is_whole : Front → Bool
is_whole (Whole field len) = true
is_whole front = false

abbrev pub len_of : Front → ℕ
len_of (Whole field len) = len
len_of front = 0

-- The fronts of a text from left to right, each where the field before it ends, up to the first that is no field. The
-- bytes that are still within a field are skipped; the first byte has this offset.
abbrev pub fronts_past : ℕ → ℕ → List ℕ → List Placed
fronts_past skipped at [] = []
fronts_past (suc skipped) at (byte ∷ bytes) = fronts_past skipped (at + 1) bytes
fronts_past zero at (byte ∷ bytes) =
    record { at = at; front = front_of (byte ∷ bytes) }
    ∷ (if is_whole (front_of (byte ∷ bytes)) then fronts_past (len_of (front_of (byte ∷ bytes)) - 1)
    (at + 1) bytes else [])

unfoldable pub fronts_from : ℕ → List ℕ → List Placed
fronts_from at text = fronts_past 0 at text

abbrev pub onto_fields : Front → Option (List Field) → Option (List Field)
onto_fields (Whole field len) fields = option_map (λ rest. field ∷ rest) fields
onto_fields front fields = None

-- the fields of fronts, where each is a field
abbrev pub fields_in : List Placed → Option (List Field)
fields_in [] = Some []
fields_in (placed ∷ rest) = onto_fields placed.front (fields_in rest)

-- the fields of a text
abbrev pub fields_of : List ℕ → Option (List Field)
fields_of text = fields_in (fronts_from 0 text)

-- why there is no field
abbrev pub fault_of : Front → Option WireFault
fault_of (NoKey fault) = Some fault
fault_of (NoContent number wire fault) = Some fault
fault_of (Whole field len) = None
