-- The front of a text by its key.
use Rattle.std.proofs.Common.{◌≡◌, ℕ, Result, true, sym, ◌+◌, ◌-◌, ◌*◌, ◌%◌, ◌/◌, ◌<◌, ◌≤◌, List, [], ◌∷◌, length, drop, refl, arith, Ok, Err, ◌≢◌, ◌∙◌, false, ◌==◌}
use Rattle.std.proofs.Math.Dec.{eqb}
use Rattle.std.proofs.lemmas.Bool.{ne_eqb, eqb-true}
use Rattle.mc_base.specs.Wire.{Content}
use Rattle.std.proofs.lemmas.List.{drop-drop, length-drop}
use Rattle.mc_base.specs.WireRead.{front_varint, front_of, front_field, front_keyed, front_content, WireFault, NoKey, NoContent, Whole, after_key}
use Rattle.mc_wire.specs.Named.{KeyAt, FieldAt, FaultAt, KeyFaultAt, IsKeyed, FieldOf, FaultOf, ContentAt, content_at, fault_named, field_at, fronts_at}
use Rattle.mc_wire.specs.declared.fault.WireFault.{WireFault as Fault}
use Rattle.mc_wire.specs.declared.fault.WireFault.TheVariants.{FieldZero}
use Rattle.mc_wire.specs.declared.fault.WireFaultAt.{WireFaultAt}
use Rattle.mc_wire.specs.declared.field.Key.{Key}
use Rattle.mc_wire.specs.declared.field.Field.{Field as PlacedField}
use Rattle.mc_wire.proofs.Fronts.{fronts_field, fronts_fault, fronts_others}
use Rattle.mc_wire.proofs.ContentFacts.{content_read}

front_by : (text : List ℕ) (value len : ℕ) → front_varint text ≡ Ok (value, len) → front_of text ≡ front_keyed (Ok (value, len)) text
unfolding front_of
front_by text value len found = rw found

keyed_content : (number wire len : ℕ) (rest : List ℕ) (read : Result (Content × ℕ) WireFault) → front_content wire rest ≡ read → IsKeyed number wire (front_field number wire len read)
keyed_content number wire len rest (Err fault) found = (refl, refl)
keyed_content number wire len rest (Ok (content, size)) found = let is = content_read wire rest content size found in (refl, is.typed)

is_keyed : (number wire len : ℕ) (rest : List ℕ) → IsKeyed number wire (after_key number wire len rest)
is_keyed number wire len rest = (elim (eqb number 0) as (λ b. eqb number 0 ≡ b → IsKeyed number wire (after_key number wire len rest)) [
  | true ↦ λ e. rw e (sym (eqb-true number 0 e), refl)
  | false ↦ λ e. rw e (keyed_content number wire len rest (front_content wire rest) refl)
]) refl

is_left : (text : List ℕ) (at : ℕ) → at < length text → 0 < length (drop at text)
is_left text at inside = omega (arith, length-drop at text)

pub key_at : (text : List ℕ) (at value len : ℕ) → front_varint (drop at text) ≡ Ok (value, len) → 0 < len → at + len ≤ length text →
    KeyAt text at (record { number = value / 8; wire_type = value % 8; next = at + len })
key_at text at value len found some within =
    let whole : 8 * (value / 8) + value % 8 ≡ value = omega arith in
    let size : at + len - at ≡ len = omega arith in
    let front : front_of (drop at text) ≡ after_key (value / 8) (value % 8) (at + len - at) (drop (at + len) text) =
    rw (size, ← drop-drop len at text) (front_by (drop at text) value len found) in
    let begun = fronts_others at (drop at text) (is_left text at (omega arith)) in
    record {
      varint = rw (whole, size) found;
      wire_type = omega arith;
      front = front;
      begins = omega arith;
      ends = within;
      keyed = rw front (is_keyed (value / 8) (value % 8) (at + len - at) (drop (at + len) text));
      others = begun.0;
      fronts = begun.1;
    }

front_no_key : (text : List ℕ) (fault : WireFault) → front_varint text ≡ Err fault → front_of text ≡ NoKey fault
unfolding front_of
front_no_key text fault found = rw found

pub no_key : (text : List ℕ) (at : ℕ) (kind : Fault) → at < length text → front_varint (drop at text) ≡ Err (fault_named kind) → KeyFaultAt text at (record { kind = kind; at = at })
no_key text at kind inside found =
    let front : front_of (drop at text) ≡ NoKey (fault_named kind) = front_no_key (drop at text) (fault_named kind) found in
    record {
      inside = inside;
      at_key = refl;
      front = front;
      fronts = fronts_fault at (drop at text) (rw front) (is_left text at inside) ∙ rw front;
    }

-- the fault of a key's varint is that of its field
pub key_fault : (text : List ℕ) (at : ℕ) (fault : WireFaultAt) → KeyFaultAt text at fault → FaultAt text at fault
key_fault text at fault faulty = record {
  inside = faulty.inside;
  at_key = faulty.at_key;
  kind = rw faulty.front;
  fronts = rw faulty.front faulty.fronts;
}

pub field_after : (text : List ℕ) (key : Key) (field : PlacedField) → field.number ≡ key.number → key.number ≢ 0 → ContentAt text key.wire_type key.next field.content field.next →
    (at : ℕ) → KeyAt text at key → FieldAt text at field
field_after text key field number numbered content at read =
    let len : key.next - at + (field.next - key.next) ≡ field.next - at = omega (arith, content.begins, read.begins) in
    let back : at + (field.next - at) ≡ field.next = omega (arith, content.begins, read.begins) in
    let some : key.number == 0 ≡ false = ne_eqb key.number 0 numbered in
    let front : front_of (drop at text) ≡ Whole (field_at text field) (field.next - at) = read.front ∙ rw (number, some, content.found, len) in
    record {
      front = front;
      bytes = content.bytes;
      begins = omega (arith, content.begins, read.begins);
      ends = content.ends;
      fronts =
          fronts_field at (drop at text) (field_at text field) (field.next - at) front (omega (arith, content.begins, read.begins)) (is_left text at (omega (arith, read.begins, read.ends)))
          ∙ rw (drop-drop (field.next - at) at text, back);
    }

pub no_content : (text : List ℕ) (key : Key) (kind : Fault) → ((len : ℕ) → after_key key.number key.wire_type len (drop key.next text) ≡ NoContent key.number key.wire_type (fault_named kind)) →
    (at : ℕ) → KeyAt text at key → fronts_at text at ≡ record { at = at; front = NoContent key.number key.wire_type (fault_named kind) } ∷ []
no_content text key kind faulty at read =
    let front : front_of (drop at text) ≡ NoContent key.number key.wire_type (fault_named kind) = read.front ∙ faulty (key.next - at) in
    fronts_fault at (drop at text) (rw front) (is_left text at (omega (arith, read.begins, read.ends))) ∙ rw front

-- a field number of 0
pub number_zero : (text : List ℕ) (key : Key) → key.number ≡ 0 → FaultOf text key FieldZero
number_zero text key none =
    let kind : (len : ℕ) → after_key key.number key.wire_type len (drop key.next text) ≡ NoContent key.number key.wire_type (fault_named FieldZero) = λ (len : ℕ). rw none in
    record { kind = kind; at_key = no_content text key FieldZero kind }

-- a key with a number, and no content
pub faulty_content : (text : List ℕ) (key : Key) (kind : Fault) → key.number ≢ 0 → front_content key.wire_type (drop key.next text) ≡ Err (fault_named kind) → FaultOf text key kind
faulty_content text key kind numbered bad =
    let some : key.number == 0 ≡ false = ne_eqb key.number 0 numbered in
    let at_any : (len : ℕ) → after_key key.number key.wire_type len (drop key.next text) ≡ NoContent key.number key.wire_type (fault_named kind) = λ (len : ℕ). rw (some, bad) in
    record { kind = at_any; at_key = no_content text key kind at_any }

pub field_of : (text : List ℕ) (key : Key) (field : PlacedField) → field.number ≡ key.number → key.number ≢ 0 → ContentAt text key.wire_type key.next field.content field.next → FieldOf text key field
field_of text key field number numbered content =
    let is = content_read key.wire_type (drop key.next text) (content_at text field.content) (field.next - key.next) content.found in
    record { number = number; numbered = numbered; typed = is.typed; content = content; at_key = field_after text key field number numbered content }

pub no_field : (text : List ℕ) (at : ℕ) (key : Key) (kind : Fault) → KeyAt text at key → FaultOf text key kind → FaultAt text at (record { kind = kind; at = at })
no_field text at key kind read bad =
    let front : front_of (drop at text) ≡ NoContent key.number key.wire_type (fault_named kind) = read.front ∙ bad.kind (key.next - at) in
    record { inside = omega (arith, read.begins, read.ends); at_key = refl; kind = rw front; fronts = rw front (bad.at_key at read) }
