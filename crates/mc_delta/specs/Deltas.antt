-- What reading a delta gives.
use Rattle.std.specs.Prelude.{◌≡◌, ℕ, List, [], ◌∷◌, ◌++◌, ◌==◌, ◌||◌, if◌then◌else◌, Option, Some, None, Err, ⊤}
use Rattle.std.specs.Prelude.{unwrap_or}
use Rattle.mc_base.specs.Wire.{Field}
use Rattle.mc_model.specs.DeltaText.{DeltaFault, delta_of, delta_read, element_in, tomb_in, entry_fault}
use Rattle.mc_model.specs.DeltaText.{entry_part_fault, part_of, varint_of}
use Rattle.mc_model.specs.declared.delta.Delta.{Delta}
use Rattle.mc_model.specs.declared.delta.Element.{Element}
use Rattle.mc_model.specs.declared.delta.Tomb.{Tomb}
use Rattle.mc_wire.specs.Named.{fronts_at, field_at}
use Rattle.mc_wire.specs.declared.field.Field.{Field as PlacedField}
use Rattle.mc_delta.specs.Faults.{fault_named}
use Rattle.mc_delta.specs.declared.fault.DeltaError.{DeltaError}
use Rattle.mc_delta.specs.declared.fault.DeltaError.TheVariants.{Memory, Fault}

-- a text that is no delta, and its first fault
abbrev pub IsFault : List ℕ → DeltaError → Type 0
IsFault text Memory = ⊤
IsFault text (Fault fault) = (delta_of text ≡ None) × (delta_read text ≡ Err (fault_named fault))

abbrev pub IsEntryFault : List ℕ → ℕ → DeltaError → Type 0
IsEntryFault text from Memory = ⊤
IsEntryFault text from (Fault fault) = entry_fault (fronts_at text from) ≡ Some (fault_named fault)

-- the first fault in a field that ends at this offset
abbrev pub field_fault : ℕ → Field → Option DeltaFault
field_fault end field = if field.number == 1 || field.number == 2 then entry_part_fault end field.content else None

abbrev pub IsFieldFault : List ℕ → PlacedField → DeltaError → Type 0
IsFieldFault text field Memory = ⊤
IsFieldFault text field (Fault fault) = field_fault field.next (field_at text field) ≡ Some (fault_named fault)

abbrev pub with_element : Option (List ℕ) → List Element → List Element
with_element None elements = elements
with_element (Some body) elements = elements ++ element_in body ∷ []

abbrev pub with_tomb : Option (List ℕ) → List Tomb → List Tomb
with_tomb None tombstones = tombstones
with_tomb (Some body) tombstones = tombstones ++ tomb_in body ∷ []

-- a delta with one field more
pub record TakesField (text : List ℕ) (field : PlacedField) (old new : Delta) : Type 0 where
  pub fine : field_fault field.next (field_at text field) ≡ None
  pub elements : new.elements ≡ with_element (part_of 1 (field_at text field)) old.elements
  pub tombstones : new.tombstones ≡ with_tomb (part_of 2 (field_at text field)) old.tombstones
  pub priority : new.priority ≡ unwrap_or (varint_of 3 (field_at text field)) old.priority
