-- A field that holds an element or a tombstone.
use Rattle.std.proofs.Common.{◌≡◌, ℕ, ◌+◌, ◌-◌, ◌≤◌, List, [], ◌∷◌, ◌++◌, length, take, drop, subst, ◌∙◌, arith, None, Ok, Err, Result, OnOk, ◌⊎◌, inl, inr}
use Rattle.std.proofs.lemmas.List.{length-take-le, length-drop, drop-take}
use Rattle.mc_model.specs.DeltaText.{entry_fault, element_in, tomb_in}
use Rattle.mc_model.specs.declared.delta.Delta.{Delta}
use Rattle.mc_model.specs.declared.delta.Element.{Element}
use Rattle.mc_model.specs.declared.delta.Tomb.{Tomb}
use Rattle.mc_wire.specs.Named.{EndsAt, fronts_at, field_at}
use Rattle.mc_wire.specs.declared.field.Content.TheVariants.{Part as PartAt}
use Rattle.mc_wire.specs.declared.field.Field.{Field as PlacedField}
use Rattle.mc_delta.specs.Deltas.{IsEntryFault, IsFieldFault, TakesField, field_fault}
use Rattle.mc_delta.specs.declared.fault.DeltaError.{DeltaError}
use Rattle.mc_delta.specs.declared.fault.DeltaError.TheVariants.{Memory, Fault}

-- the bytes of a part are where a text that is cut at its end goes on
cut_body : (text : List ℕ) (from to : ℕ) → from ≤ to → drop from (take to text) ≡ take (to - from) (drop from text)
cut_body text from to order = let e : from + (to - from) ≡ to = omega arith in subst (λ (end : ℕ). drop from (take end text) ≡ take (to - from) (drop from text)) e (drop-take from (to - from) text)

-- a field with an entry
pub record HasEntry (text : List ℕ) (field : PlacedField) (from to : ℕ) : Type 0 where
  pub part : field.content ≡ PartAt from to
  pub order : from ≤ to
  pub ends : to ≡ field.next
  pub within : to ≤ length text

pub has_entry_at : (text : List ℕ) (field : PlacedField) (from to : ℕ) → field.content ≡ PartAt from to → EndsAt field.content field.next → field.next ≤ length text → HasEntry text field from to
has_entry_at text field from to part bytes within =
    let ends : (from ≤ to) × (to ≡ field.next) = rw part at bytes in
    record { part = part; order = ends.0; ends = ends.1; within = omega (arith, ends.1) }

-- what is asked of an element or a tombstone stands where its entry does
entry_there : (text : List ℕ) (field : PlacedField) (from to : ℕ) → HasEntry text field from to → (field.number ≡ 1) ⊎ (field.number ≡ 2) → field_fault field.next (field_at text field) ≡ entry_fault (fronts_at (take to text) from)
entry_there text field from to has (inl one) =
    let body = cut_body text from to has.order in
    let size : length (take (to - from) (drop from text)) ≡ to - from = length-take-le (to - from) (drop from text) (omega (arith, length-drop from text, has.within, has.order)) in
    let begin : field.next - (to - from) ≡ from = omega (arith, has.order, has.ends) in
    rw (one, has.part, size, begin, body)
entry_there text field from to has (inr two) =
    let body = cut_body text from to has.order in
    let size : length (take (to - from) (drop from text)) ≡ to - from = length-take-le (to - from) (drop from text) (omega (arith, length-drop from text, has.within, has.order)) in
    let begin : field.next - (to - from) ≡ from = omega (arith, has.order, has.ends) in
    rw (two, has.part, size, begin, body)

pub entry_bad : (text : List ℕ) (field : PlacedField) (from to : ℕ) → HasEntry text field from to → (field.number ≡ 1) ⊎ (field.number ≡ 2) → (error : DeltaError) → IsEntryFault (take to text) from error → IsFieldFault text field error
entry_bad text field from to has number Memory bad = tt
entry_bad text field from to has number (Fault fault) bad = entry_there text field from to has number ∙ bad

element_taken : (text : List ℕ) (field : PlacedField) (from to : ℕ) (old : Delta) (elements : List Element) → HasEntry text field from to → field.number ≡ 1 → elements ≡ old.elements ++ element_in (drop from (take to text)) ∷ [] →
    entry_fault (fronts_at (take to text) from) ≡ None → TakesField text field old (record old { elements = elements })
element_taken text field from to old elements has one taken fine =
    let body = cut_body text from to has.order in
    record {
      fine = entry_there text field from to has (inl one) ∙ fine;
      elements = rw (taken, one, has.part, body);
      tombstones = rw one;
      priority = rw one;
    }

tomb_taken : (text : List ℕ) (field : PlacedField) (from to : ℕ) (old : Delta) (tombstones : List Tomb) → HasEntry text field from to → field.number ≡ 2 → tombstones ≡ old.tombstones ++ tomb_in (drop from (take to text)) ∷ [] →
    entry_fault (fronts_at (take to text) from) ≡ None → TakesField text field old (record old { tombstones = tombstones })
tomb_taken text field from to old tombstones has two taken fine =
    let body = cut_body text from to has.order in
    record {
      fine = entry_there text field from to has (inr two) ∙ fine;
      elements = rw two;
      tombstones = rw (taken, two, has.part, body);
      priority = rw two;
    }

-- the same, where the call is done
pub on_element : (text : List ℕ) (field : PlacedField) (from to : ℕ) (old : Delta) (elements : List Element) {T E : Type 0} (result : Result T E) → HasEntry text field from to → field.number ≡ 1 →
    OnOk result (elements ≡ old.elements ++ element_in (drop from (take to text)) ∷ []) → OnOk result (entry_fault (fronts_at (take to text) from) ≡ None) → OnOk result (TakesField text field old (record old { elements = elements }))
on_element text field from to old elements (Ok value) has one taken fine = element_taken text field from to old elements has one taken fine
on_element text field from to old elements (Err error) has one taken fine = tt

pub on_tomb : (text : List ℕ) (field : PlacedField) (from to : ℕ) (old : Delta) (tombstones : List Tomb) {T E : Type 0} (result : Result T E) → HasEntry text field from to → field.number ≡ 2 →
    OnOk result (tombstones ≡ old.tombstones ++ tomb_in (drop from (take to text)) ∷ []) → OnOk result (entry_fault (fronts_at (take to text) from) ≡ None) → OnOk result (TakesField text field old (record old { tombstones = tombstones }))
on_tomb text field from to old tombstones (Ok value) has two taken fine = tomb_taken text field from to old tombstones has two taken fine
on_tomb text field from to old tombstones (Err error) has two taken fine = tt
