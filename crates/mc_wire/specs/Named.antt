-- What the values of this crate say of a text.
use Rattle.std.specs.Prelude.{◌≡◌, ◌≢◌, ℕ, ◌+◌, ◌-◌, ◌*◌, ◌<◌, ◌≤◌, List, [], ◌∷◌, length, take, drop, Some, Result, Ok}
use Rattle.std.specs.Prelude.{Err, ⊤}
use Rattle.mc_base.specs.Wire as wire
use Rattle.mc_base.specs.Wire.{Field, wire_type}
use Rattle.mc_base.specs.WireRead as read
use Rattle.mc_base.specs.WireRead.{WireFault, Front, after_key, front_varint, front_content, front_of, fault_of, NoKey}
use Rattle.mc_base.specs.WireRead.{NoContent, Whole, Placed, fronts_from}
use Rattle.mc_wire.specs.declared.fault.WireFault.{WireFault as Fault}
use Rattle.mc_wire.specs.declared.fault.WireFault.TheVariants.{Short, LongVarint, WireType, FieldZero}
use Rattle.mc_wire.specs.declared.fault.WireFaultAt.{WireFaultAt}
use Rattle.mc_wire.specs.declared.field.Content.{Content}
use Rattle.mc_wire.specs.declared.field.Content.TheVariants.{Varint, Fixed64, Part, Fixed32}
use Rattle.mc_wire.specs.declared.field.Field.{Field as PlacedField}
use Rattle.mc_wire.specs.declared.field.Key.{Key}

abbrev pub fault_named : Fault → WireFault
fault_named Short = read.Short
fault_named LongVarint = read.LongVarint
fault_named WireType = read.WireType
fault_named FieldZero = read.FieldZero

-- a reading with its fault named
abbrev pub reading : {A : Type 0} → Result A Fault → Result A WireFault
reading (Ok value) = Ok value
reading (Err fault) = Err (fault_named fault)

-- what stands at these offsets
abbrev pub content_at : List ℕ → Content → wire.Content
content_at text (Varint value) = wire.Varint value
content_at text (Fixed64 from) = wire.Fixed64 (take 8 (drop from text))
content_at text (Part from to) = wire.Part (take (to - from) (drop from text))
content_at text (Fixed32 from) = wire.Fixed32 (take 4 (drop from text))

-- a content whose bytes end here, within the text
abbrev pub EndsAt : Content → ℕ → Type 0
EndsAt (Varint value) end = ⊤
EndsAt (Fixed64 from) end = from + 8 ≡ end
EndsAt (Part from to) end = (from ≤ to) × (to ≡ end)
EndsAt (Fixed32 from) end = from + 4 ≡ end

abbrev pub field_at : List ℕ → PlacedField → Field
field_at text field = record { number = field.number; content = content_at text field.content }

-- a front after a key of this number and wire type
abbrev pub IsKeyed : ℕ → ℕ → Front → Type 0
IsKeyed number wire (NoKey fault) = ⊥
IsKeyed number wire (NoContent keyed typed fault) = (keyed ≡ number) × (typed ≡ wire)
IsKeyed number wire (Whole field len) = (field.number ≡ number) × (wire_type field.content ≡ wire)

-- the fronts of a text from an offset on
abbrev pub fronts_at : List ℕ → ℕ → List Placed
fronts_at text at = fronts_from at (drop at text)

-- the key at an offset of a text
pub record KeyAt (text : List ℕ) (at : ℕ) (key : Key) : Type 0 where
  pub varint : front_varint (drop at text) ≡ Ok (8 * key.number + key.wire_type, key.next - at)
  pub wire_type : key.wire_type < 8
  pub front : front_of (drop at text) ≡ after_key key.number key.wire_type (key.next - at) (drop key.next text)
  pub begins : at < key.next
  pub ends : key.next ≤ length text
  pub keyed : IsKeyed key.number key.wire_type (front_of (drop at text))
  pub others : List Placed
  pub fronts : fronts_at text at ≡ record { at = at; front = front_of (drop at text) } ∷ others

-- the content of this wire type at an offset of a text, and the offset after it
pub record ContentAt (text : List ℕ) (wire_type from : ℕ) (content : Content) (next : ℕ) : Type 0 where
  pub found : front_content wire_type (drop from text) ≡ Ok (content_at text content, next - from)
  pub bytes : EndsAt content next
  pub begins : from ≤ next
  pub ends : next ≤ length text

-- the field at an offset of a text, after which the next one stands
pub record FieldAt (text : List ℕ) (at : ℕ) (field : PlacedField) : Type 0 where
  pub front : front_of (drop at text) ≡ Whole (field_at text field) (field.next - at)
  pub bytes : EndsAt field.content field.next
  pub begins : at < field.next
  pub ends : field.next ≤ length text
  pub fronts : fronts_at text at
      ≡ record { at = at; front = Whole (field_at text field) (field.next - at) } ∷ fronts_at text field.next

-- the fault at an offset of a text that isn't its end
pub record FaultAt (text : List ℕ) (at : ℕ) (fault : WireFaultAt) : Type 0 where
  pub inside : at < length text
  pub at_key : fault.at ≡ at
  pub kind : fault_of (front_of (drop at text)) ≡ Some (fault_named fault.kind)
  pub fronts : fronts_at text at ≡ record { at = at; front = front_of (drop at text) } ∷ []

-- the fault of the varint of the key at an offset of a text that isn't its end
pub record KeyFaultAt (text : List ℕ) (at : ℕ) (fault : WireFaultAt) : Type 0 where
  pub inside : at < length text
  pub at_key : fault.at ≡ at
  pub front : front_of (drop at text) ≡ NoKey (fault_named fault.kind)
  pub fronts : fronts_at text at ≡ record { at = at; front = NoKey (fault_named fault.kind) } ∷ []

-- the field that a key begins
pub record FieldOf (text : List ℕ) (key : Key) (field : PlacedField) : Type 0 where
  pub number : field.number ≡ key.number
  pub numbered : key.number ≢ 0
  pub typed : wire_type (content_at text field.content) ≡ key.wire_type
  pub content : ContentAt text key.wire_type key.next field.content field.next
  pub at_key : (at : ℕ) → KeyAt text at key → FieldAt text at field

-- why a key begins no field
pub record FaultOf (text : List ℕ) (key : Key) (fault : Fault) : Type 0 where
  pub kind : (len : ℕ) →
      after_key key.number key.wire_type len (drop key.next text)
      ≡ NoContent key.number key.wire_type (fault_named fault)
  pub at_key : (at : ℕ) → KeyAt text at key →
      fronts_at text at ≡ record { at = at; front = NoContent key.number key.wire_type (fault_named fault) } ∷ []
