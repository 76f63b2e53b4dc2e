-- What is written for a delta is read as it.
use Rattle.std.proofs.Common.{◌≡◌, ℕ, ◌<◌, ◌≤◌, ◌^◌, List, [], ◌∷◌, ◌++◌, length, map, true, false, refl, arith, length-append, ◌==◌}
use Rattle.std.proofs.Math.Dec.{eqb}
use Rattle.std.proofs.lemmas.Str.{is_utf8-from_IsUtf8, IsUtf8-nil}
use Rattle.std.specs.Bool.{if◌then◌else◌}
use Rattle.std.specs.List.{flat_map}
use Rattle.std.specs.Str.{is_utf8}
use Rattle.mc_base.specs.Wire.{Field, Fields, Varint, Part, part_field_bytes, varint_field_bytes}
use Rattle.mc_model.specs.DeltaText.{delta_bytes, element_bytes, tomb_bytes, priority_bytes, entry_bytes}
use Rattle.mc_model.specs.declared.delta.Delta.{Delta}
use Rattle.mc_model.specs.declared.delta.Element.{Element}
use Rattle.mc_model.specs.declared.delta.Tomb.{Tomb}
use Rattle.mc_wire.proofs.WrittenFacts.{part_field_is_written, varint_field_is_written}
use Rattle.mc_delta.specs.Written.{IsWritable}
use Rattle.mc_delta.proofs.LengthFacts.{part_field_len}
use Rattle.mc_delta.proofs.WrittenEntry.{fields_joined, one_field}

pub empty_text : is_utf8 [] ≡ true
empty_text = is_utf8-from_IsUtf8 [] IsUtf8-nil

abbrev pub element_entry : Element → List ℕ
element_entry element = entry_bytes element.key [] element.value

abbrev pub tomb_entry : Tomb → List ℕ
tomb_entry tomb = entry_bytes tomb.key tomb.id []

abbrev pub element_field : Element → Field
element_field element = record { number = 1; content = Part (element_entry element) }

abbrev pub tomb_field : Tomb → Field
tomb_field tomb = record { number = 2; content = Part (tomb_entry tomb) }

abbrev pub priority_fields : ℕ → List Field
priority_fields priority = if priority == 0 then [] else (record { number = 3; content = Varint priority } ∷ [])

abbrev pub fields_with : Delta → List Field
fields_with delta = (map element_field delta.elements ++ map tomb_field delta.tombstones) ++ priority_fields delta.priority

-- a part stands within its field
pub field_within : (number : ℕ) (part rest : List ℕ) → number ≤ 15 → length (part_field_bytes number part ++ rest) < 2 ^ 64 → (length part < 2 ^ 64) × (length rest < 2 ^ 64)
field_within number part rest small fits =
    let whole = length-append (part_field_bytes number part) rest in
    let size = part_field_len number part small in
    (omega (arith, whole, size), omega (arith, whole))

elements_fields : (elements : List Element) → length (flat_map element_bytes elements) < 2 ^ 64 → Fields (flat_map element_bytes elements) (map element_field elements)
elements_fields [] fits = refl
elements_fields (element ∷ elements) fits =
    let parts = field_within 1 (element_entry element) (flat_map element_bytes elements) (omega arith) fits in
    fields_joined (element_bytes element) (flat_map element_bytes elements) (element_field element ∷ []) (map element_field elements)
    (one_field (element_bytes element) (element_field element) (part_field_is_written 1 (element_entry element) (omega arith) (omega arith) parts.0)) (elements_fields elements parts.1)

tombs_fields : (tombs : List Tomb) → length (flat_map tomb_bytes tombs) < 2 ^ 64 → Fields (flat_map tomb_bytes tombs) (map tomb_field tombs)
tombs_fields [] fits = refl
tombs_fields (tomb ∷ tombs) fits =
    let parts = field_within 2 (tomb_entry tomb) (flat_map tomb_bytes tombs) (omega arith) fits in
    fields_joined (tomb_bytes tomb) (flat_map tomb_bytes tombs) (tomb_field tomb ∷ []) (map tomb_field tombs)
    (one_field (tomb_bytes tomb) (tomb_field tomb) (part_field_is_written 2 (tomb_entry tomb) (omega arith) (omega arith) parts.0)) (tombs_fields tombs parts.1)

priority_fields_are : (priority : ℕ) → priority < 2 ^ 64 → Fields (priority_bytes priority) (priority_fields priority)
priority_fields_are priority fits = (elim (eqb priority 0) as (λ b. Fields (if b then [] else varint_field_bytes 3 priority) (if b then [] else (record { number = 3; content = Varint priority } ∷ []))) [
  | true ↦ refl
  | false ↦ one_field (varint_field_bytes 3 priority) (record { number = 3; content = Varint priority }) (varint_field_is_written 3 priority (omega arith) (omega arith) fits)
])

pub delta_fields_are : (delta : Delta) → IsWritable delta → Fields (delta_bytes delta) (fields_with delta)
delta_fields_are delta writable =
    let elements = flat_map element_bytes delta.elements in
    let tombs = flat_map tomb_bytes delta.tombstones in
    let whole = length-append (elements ++ tombs) (priority_bytes delta.priority) in
    let first = length-append elements tombs in
    fields_joined (elements ++ tombs) (priority_bytes delta.priority) (map element_field delta.elements ++ map tomb_field delta.tombstones) (priority_fields delta.priority)
    (fields_joined elements tombs (map element_field delta.elements) (map tomb_field delta.tombstones)
    (elements_fields delta.elements (omega (arith, whole, first, writable.short))) (tombs_fields delta.tombstones (omega (arith, whole, first, writable.short))))
    (priority_fields_are delta.priority writable.priority)
