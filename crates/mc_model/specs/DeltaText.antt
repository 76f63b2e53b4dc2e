-- Deltas as Protocol Buffers messages (Protocol Buffers documentation, "Encoding"): a delta has elements (1, each an
-- entry), tombstones (2, each an entry) and a priority (3, a varint), and an entry has a key (1), an id (2) and a value
-- (3).
use Rattle.std.specs.Prelude.{ℕ, ◌+◌, ◌-◌, List, [], ◌∷◌, ◌++◌, length, map, Bool, true, ◌==◌, ◌&&◌, ◌||◌, not}
use Rattle.std.specs.Prelude.{if◌then◌else◌, Option, Some, None, Result, Ok, Err}
use Rattle.std.specs.List.{list_all, filter_map, flat_map}
use Rattle.std.specs.Option.{option_and_then, option_map, option_or}
use Rattle.std.specs.Str.{is_utf8}
use Rattle.mc_base.specs.Wire.{Field, Content, Varint, Part, varint_field_bytes, part_field_bytes}
pub use Rattle.mc_base.specs.Wire.{part_of, parts_of}
use Rattle.mc_base.specs.WireRead.{WireFault, Front, NoKey, NoContent, Whole, Placed, fields_of, fronts_from}
use Rattle.mc_base.specs.NodeRead.{parts_in}
use Rattle.mc_model.specs.declared.delta.Delta.{Delta}
use Rattle.mc_model.specs.declared.delta.Element.{Element}
use Rattle.mc_model.specs.declared.delta.Tomb.{Tomb}

-- what is held with the wire type of a varint
abbrev pub content_varint : Content → Option ℕ
content_varint (Varint value) = Some value
content_varint content = None

abbrev pub is_text : Content → Bool
is_text (Part bytes) = is_utf8 bytes
is_text content = true

-- what a field of this number holds, where it has the wire type of a varint
abbrev pub varint_of : ℕ → Field → Option ℕ
varint_of number field = if field.number == number then content_varint field.content else None

-- the last one, or this where there is none
abbrev pub last_or : {A : Type 0} → A → List A → A
last_or absent [] = absent
last_or absent (item ∷ items) = last_or item items

abbrev pub last_part : ℕ → List Field → List ℕ
last_part number fields = last_or [] (parts_of number fields)

abbrev pub all_some : {A : Type 0} → List (Option A) → Option (List A)
all_some [] = Some []
all_some (item ∷ items) = option_and_then (λ first. option_map (λ rest. first ∷ rest) (all_some items)) item

-- the fields of an entry, where each key and id in it is UTF-8
abbrev pub entry_of : List ℕ → Option (List Field)
entry_of text =
    option_and_then
    (λ fields. if list_all is_utf8 (parts_of 1 fields)
    && list_all is_utf8 (parts_of 2 fields) then Some fields else None) (fields_of text)

abbrev pub entries_of : ℕ → List Field → Option (List (List Field))
entries_of number fields = all_some (map entry_of (parts_of number fields))

abbrev pub element_of : List Field → Element
element_of fields = record { key = last_part 1 fields; value = last_part 3 fields }

abbrev pub tomb_of : List Field → Tomb
tomb_of fields = record { key = last_part 1 fields; id = last_part 2 fields }

abbrev pub delta_with : List Field → List (List Field) → List (List Field) → Delta
delta_with fields elements tombstones =
    record {
      elements = map element_of elements;
      tombstones = map tomb_of tombstones;
      priority = last_or 0
          (filter_map (varint_of 3) fields);
    }

abbrev pub delta_of_fields : List Field → Option Delta
delta_of_fields fields =
    option_and_then
    (λ elements. option_map (λ tombstones. delta_with fields elements tombstones) (entries_of 2 fields))
    (entries_of 1 fields)

-- The delta of a text. Elements and tombstones are taken in order, the last of a repeated scalar counts, and an absent
-- one is empty or 0. Other fields, and known numbers with another wire type, count for nothing.
unfoldable pub delta_of : List ℕ → Option Delta
delta_of text = option_and_then delta_of_fields (fields_of text)

-- a fault of the wire format, or a key or id that isn't UTF-8
pub data DeltaFaultKind : Type 0 where
  Wire : WireFault → DeltaFaultKind
  TextFault : DeltaFaultKind

-- a fault, and the offset in the delta of the key of the innermost field at fault
pub record DeltaFault : Type 0 where
  pub kind : DeltaFaultKind
  pub at : ℕ

-- where a text that isn't UTF-8 stands as a key or an id
abbrev pub text_fault : ℕ → Field → Option DeltaFault
text_fault at field =
    if (field.number == 1 || field.number == 2)
    && not (is_text field.content) then Some (record { kind = TextFault; at = at }) else None

abbrev pub entry_front_fault : ℕ → Front → Option DeltaFault
entry_front_fault at (NoKey fault) = Some (record { kind = Wire fault; at = at })
entry_front_fault at (NoContent number wire fault) = Some (record { kind = Wire fault; at = at })
entry_front_fault at (Whole field len) = text_fault at field

-- the first fault in an entry
abbrev pub entry_fault : List Placed → Option DeltaFault
entry_fault [] = None
entry_fault (placed ∷ rest) = option_or (entry_front_fault placed.at placed.front) (entry_fault rest)

-- an entry ends at this offset
abbrev pub entry_part_fault : ℕ → Content → Option DeltaFault
entry_part_fault end (Part entry) = entry_fault (fronts_from (end - length entry) entry)
entry_part_fault end content = None

abbrev pub delta_front_fault : ℕ → Front → Option DeltaFault
delta_front_fault at (NoKey fault) = Some (record { kind = Wire fault; at = at })
delta_front_fault at (NoContent number wire fault) = Some (record { kind = Wire fault; at = at })
delta_front_fault at (Whole field len) =
    if field.number == 1 || field.number == 2 then entry_part_fault (at + len) field.content else None

-- the first fault of a delta: an element or a tombstone is looked at when it is met
abbrev pub delta_fault_in : List Placed → Option DeltaFault
delta_fault_in [] = None
delta_fault_in (placed ∷ rest) = option_or (delta_front_fault placed.at placed.front) (delta_fault_in rest)

unfoldable pub delta_fault : List ℕ → Option DeltaFault
delta_fault text = delta_fault_in (fronts_from 0 text)

-- the last bytes of this number in an entry
abbrev pub last_in : ℕ → List ℕ → List ℕ
last_in number entry = last_or [] (parts_in number (fronts_from 0 entry))

-- the element or the tombstone of an entry
abbrev pub element_in : List ℕ → Element
element_in entry = record { key = last_in 1 entry; value = last_in 3 entry }

abbrev pub tomb_in : List ℕ → Tomb
tomb_in entry = record { key = last_in 1 entry; id = last_in 2 entry }

-- the varint of a field of this number
abbrev pub varint_in : ℕ → Front → Option ℕ
varint_in number (Whole field len) = varint_of number field
varint_in number front = None

-- the varints of the fields of this number, in order
abbrev pub varints_in : ℕ → List Placed → List ℕ
varints_in number fronts = filter_map (λ placed. varint_in number placed.front) fronts

-- what fields without a fault say
abbrev pub delta_in : List Placed → Delta
delta_in fronts =
    record {
      elements = map element_in (parts_in 1 fronts);
      tombstones = map tomb_in
          (parts_in 2 fronts);
      priority = last_or 0 (varints_in 3 fronts);
    }

abbrev pub delta_unless : Option DeltaFault → Delta → Result Delta DeltaFault
delta_unless None delta = Ok delta
delta_unless (Some fault) delta = Err fault

-- What a text says as a delta, or its first fault: the reading of `delta_of`, which has a fault exactly where there is
-- no delta.
unfoldable pub delta_read : List ℕ → Result Delta DeltaFault
delta_read text = delta_unless (delta_fault text) (delta_in (fronts_from 0 text))

-- the written spellings: what is empty or 0 is left out
abbrev pub some_part : ℕ → List ℕ → List ℕ
some_part number [] = []
some_part number (byte ∷ bytes) = part_field_bytes number (byte ∷ bytes)

abbrev pub entry_bytes : List ℕ → List ℕ → List ℕ → List ℕ
entry_bytes key id value = some_part 1 key ++ some_part 2 id ++ some_part 3 value

abbrev pub element_bytes : Element → List ℕ
element_bytes element = part_field_bytes 1 (entry_bytes element.key [] element.value)

abbrev pub tomb_bytes : Tomb → List ℕ
tomb_bytes tomb = part_field_bytes 2 (entry_bytes tomb.key tomb.id [])

abbrev pub priority_bytes : ℕ → List ℕ
priority_bytes priority = if priority == 0 then [] else varint_field_bytes 3 priority

abbrev pub delta_bytes : Delta → List ℕ
delta_bytes delta =
    flat_map element_bytes delta.elements ++ flat_map tomb_bytes delta.tombstones ++ priority_bytes delta.priority
