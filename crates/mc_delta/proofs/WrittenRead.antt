-- The fields of a written delta make it again.
use Rattle.std.proofs.Common.{◌≡◌, ℕ, ◌<◌, ◌^◌, List, [], ◌∷◌, ◌++◌, length, map, true, false, refl, ap, sym, ◌∙◌, arith, length-append, Some}
use Rattle.std.proofs.Math.Dec.{eqb}
use Rattle.std.proofs.lemmas.Bool.{eqb-true, and_parts}
use Rattle.std.proofs.lemmas.List.{append-nil}
use Rattle.std.proofs.lemmas.List.Elements.{filter_map-append}
use Rattle.std.specs.Bool.{if◌then◌else◌}
use Rattle.std.specs.List.{list_all, filter_map, flat_map}
use Rattle.std.specs.Prelude.{IsTrue}
use Rattle.std.specs.Str.{is_utf8}
use Rattle.mc_base.specs.Wire.{Field, Varint}
use Rattle.mc_model.specs.DeltaText.{delta_of, delta_of_fields, delta_bytes, element_bytes, tomb_bytes, priority_bytes, entry_of, all_some, element_of, tomb_of, parts_of, part_of, varint_of, last_or}
use Rattle.mc_model.specs.declared.delta.Delta.{Delta}
use Rattle.mc_model.specs.declared.delta.Element.{Element}
use Rattle.mc_model.specs.declared.delta.Tomb.{Tomb}
use Rattle.mc_wire.proofs.FieldFacts.{fields_are_read}
use Rattle.mc_delta.specs.Written.{IsWritable, element_has_text, tomb_has_text}
use Rattle.mc_delta.proofs.WrittenDelta.{empty_text, element_entry, tomb_entry, element_field, tomb_field, priority_fields, fields_with, field_within, delta_fields_are}
use Rattle.mc_delta.proofs.WrittenEntry.{entry_fields_of, entry_is_read, last_key, last_id, last_value}

element_parts : (elements : List Element) → parts_of 1 (map element_field elements) ≡ map element_entry elements
element_parts [] = refl
element_parts (element ∷ elements) = ap (λ (rest : List (List ℕ)). element_entry element ∷ rest) (element_parts elements)

no_tomb_parts : (elements : List Element) → parts_of 2 (map element_field elements) ≡ []
no_tomb_parts [] = refl
no_tomb_parts (element ∷ elements) = no_tomb_parts elements

tomb_parts : (tombs : List Tomb) → parts_of 2 (map tomb_field tombs) ≡ map tomb_entry tombs
tomb_parts [] = refl
tomb_parts (tomb ∷ tombs) = ap (λ (rest : List (List ℕ)). tomb_entry tomb ∷ rest) (tomb_parts tombs)

no_element_parts : (tombs : List Tomb) → parts_of 1 (map tomb_field tombs) ≡ []
no_element_parts [] = refl
no_element_parts (tomb ∷ tombs) = no_element_parts tombs

no_varints_of_elements : (elements : List Element) → filter_map (varint_of 3) (map element_field elements) ≡ []
no_varints_of_elements [] = refl
no_varints_of_elements (element ∷ elements) = no_varints_of_elements elements

no_varints_of_tombs : (tombs : List Tomb) → filter_map (varint_of 3) (map tomb_field tombs) ≡ []
no_varints_of_tombs [] = refl
no_varints_of_tombs (tomb ∷ tombs) = no_varints_of_tombs tombs

priority_parts : (priority : ℕ) → (parts_of 1 (priority_fields priority) ≡ []) × (parts_of 2 (priority_fields priority) ≡ [])
priority_parts priority = (elim (eqb priority 0) as (λ b. (parts_of 1 (if b then [] else (record { number = 3; content = Varint priority } ∷ [])) ≡ []) × (parts_of 2 (if b then [] else (record { number = 3; content = Varint priority } ∷ [])) ≡ [])) [
  | true ↦ (refl, refl)
  | false ↦ (refl, refl)
])

priority_read : (priority : ℕ) → last_or 0 (filter_map (varint_of 3) (priority_fields priority)) ≡ priority
priority_read priority = (elim (eqb priority 0) as (λ b. eqb priority 0 ≡ b → last_or 0 (filter_map (varint_of 3) (if b then [] else (record { number = 3; content = Varint priority } ∷ []))) ≡ priority) [
  | true ↦ λ e. sym (eqb-true priority 0 e)
  | false ↦ λ e. refl
]) refl

-- what the fields hold
elements_of : (delta : Delta) → parts_of 1 (fields_with delta) ≡ map element_entry delta.elements
elements_of delta =
    filter_map-append (part_of 1) (map element_field delta.elements ++ map tomb_field delta.tombstones) (priority_fields delta.priority)
    ∙ rw (filter_map-append (part_of 1) (map element_field delta.elements) (map tomb_field delta.tombstones), element_parts delta.elements, no_element_parts delta.tombstones, (priority_parts delta.priority).0, append-nil (map element_entry delta.elements), append-nil (map element_entry delta.elements))

tombs_of : (delta : Delta) → parts_of 2 (fields_with delta) ≡ map tomb_entry delta.tombstones
tombs_of delta =
    filter_map-append (part_of 2) (map element_field delta.elements ++ map tomb_field delta.tombstones) (priority_fields delta.priority)
    ∙ rw (filter_map-append (part_of 2) (map element_field delta.elements) (map tomb_field delta.tombstones), no_tomb_parts delta.elements, tomb_parts delta.tombstones, (priority_parts delta.priority).1, append-nil (map tomb_entry delta.tombstones))

varints_of : (delta : Delta) → filter_map (varint_of 3) (fields_with delta) ≡ filter_map (varint_of 3) (priority_fields delta.priority)
varints_of delta =
    filter_map-append (varint_of 3) (map element_field delta.elements ++ map tomb_field delta.tombstones) (priority_fields delta.priority)
    ∙ rw (filter_map-append (varint_of 3) (map element_field delta.elements) (map tomb_field delta.tombstones), no_varints_of_elements delta.elements, no_varints_of_tombs delta.tombstones)

abbrev element_fields : Element → List Field
element_fields element = entry_fields_of element.key [] element.value

abbrev tomb_fields : Tomb → List Field
tomb_fields tomb = entry_fields_of tomb.key tomb.id []

element_entries : (elements : List Element) → IsTrue (list_all element_has_text elements) → length (flat_map element_bytes elements) < 2 ^ 64 → all_some (map entry_of (map element_entry elements)) ≡ Some (map element_fields elements)
element_entries [] texts fits = refl
element_entries (element ∷ elements) texts fits =
    let tests = and_parts (element_has_text element) (list_all element_has_text elements) texts in
    let sizes = field_within 1 (element_entry element) (flat_map element_bytes elements) (omega arith) fits in
    rw (entry_is_read element.key [] element.value tests.0 empty_text sizes.0, element_entries elements tests.1 sizes.1)

tomb_entries : (tombs : List Tomb) → IsTrue (list_all tomb_has_text tombs) → length (flat_map tomb_bytes tombs) < 2 ^ 64 → all_some (map entry_of (map tomb_entry tombs)) ≡ Some (map tomb_fields tombs)
tomb_entries [] texts fits = refl
tomb_entries (tomb ∷ tombs) texts fits =
    let tests = and_parts (tomb_has_text tomb) (list_all tomb_has_text tombs) texts in
    let two = and_parts (is_utf8 tomb.key) (is_utf8 tomb.id) tests.0 in
    let sizes = field_within 2 (tomb_entry tomb) (flat_map tomb_bytes tombs) (omega arith) fits in
    rw (entry_is_read tomb.key tomb.id [] two.0 two.1 sizes.0, tomb_entries tombs tests.1 sizes.1)

elements_back : (elements : List Element) → map element_of (map element_fields elements) ≡ elements
elements_back [] = refl
elements_back (element ∷ elements) = rw (last_key element.key [] element.value, last_value element.key [] element.value, elements_back elements)

tombs_back : (tombs : List Tomb) → map tomb_of (map tomb_fields tombs) ≡ tombs
tombs_back [] = refl
tombs_back (tomb ∷ tombs) = rw (last_key tomb.key tomb.id [], last_id tomb.key tomb.id [], tombs_back tombs)

fields_back : (delta : Delta) → IsWritable delta → delta_of_fields (fields_with delta) ≡ Some delta
fields_back delta writable =
    let whole = length-append (flat_map element_bytes delta.elements ++ flat_map tomb_bytes delta.tombstones) (priority_bytes delta.priority) in
    let first = length-append (flat_map element_bytes delta.elements) (flat_map tomb_bytes delta.tombstones) in
    let elements = element_entries delta.elements writable.elements (omega (arith, whole, first, writable.short)) in
    let tombs = tomb_entries delta.tombstones writable.tombstones (omega (arith, whole, first, writable.short)) in
    rw (elements_of delta, tombs_of delta, varints_of delta, elements, tombs, elements_back delta.elements, tombs_back delta.tombstones, priority_read delta.priority)

-- what is written for a delta is read as it
pub delta_is_read : (delta : Delta) → IsWritable delta → delta_of (delta_bytes delta) ≡ Some delta
unfolding delta_of
delta_is_read delta writable = rw (fields_are_read 0 (delta_bytes delta) (fields_with delta) (delta_fields_are delta writable)) (fields_back delta writable)
