-- A link by its bytes is the one that is read.
use Rattle.std.proofs.Common.{◌≡◌, ℕ, ◌<◌, List, [], ◌∷◌, Bool, true, false, refl, arith, Option, Some, None, ◌==◌, ◌&&◌, ◌||◌, not}
use Rattle.std.proofs.Math.Dec.{eqb}
use Rattle.std.proofs.lemmas.Bool.{eqb-true, false≢true, and_parts, and_from}
use Rattle.std.proofs.lemmas.Bool.Decides.{nat_tests}
use Rattle.std.specs.Bool.{if◌then◌else◌}
use Rattle.std.specs.Str.{is_utf8}
use Rattle.mc_base.specs.Wire.{Field, Content, Varint, Fixed64, Part, Fixed32, wire_type}
use Rattle.mc_base.specs.Node.{is_link_content, Ascends}
use Rattle.mc_base.specs.NodeRead.{NodeFaultKind, NameText, wire_kind, link_key_fault, link_front_fault, link_fault, name_fault, fault_at}
use Rattle.mc_base.specs.WireRead.{Front, NoKey, NoContent, Whole, Placed, fields_in, onto_fields}
use Rattle.std.specs.List.{list_all}
use Rattle.std.specs.Prelude.{IsTrue}
use Rattle.mc_wire.proofs.AllFields.{all_fields, none_is_no, some_is_no, neither}

key_above : (before number wire : ℕ) → link_key_fault before number wire ≡ None → before < number
key_above before number wire e = grind (arith, nat_tests)

varint_key : (before number : ℕ) → link_key_fault before number 0 ≡ None → (number == 3) ≡ true
varint_key before number e = grind (arith, nat_tests)

part_key : (before number : ℕ) → link_key_fault before number 2 ≡ None → (number == 1 || number == 2) ≡ true
part_key before number e = grind (arith, nat_tests)

fixed64_key : (before number : ℕ) → link_key_fault before number 1 ≡ None → ⊥
fixed64_key before number e = grind (arith, nat_tests)

fixed32_key : (before number : ℕ) → link_key_fault before number 5 ≡ None → ⊥
fixed32_key before number e = grind (arith, nat_tests)

varint_stands : (before number : ℕ) → before < number → (number == 3) ≡ true → link_key_fault before number 0 ≡ None
varint_stands before number above is = grind (arith, nat_tests)

part_stands : (before number : ℕ) → before < number → (number == 1 || number == 2) ≡ true → link_key_fault before number 2 ≡ None
part_stands before number above is = grind (arith, nat_tests)

-- the tests of a Hash or a Name
name_told : (one two text : Bool) → (one || two) ≡ true → (if two && not text then Some NameText else None) ≡ None → (one || (two && text)) ≡ true
name_told true two text either named = refl
name_told false true true either named = refl
name_told false true false either named = some_is_no named
name_told false false text either named = either

name_stands : (number : ℕ) (text : Bool) → (number == 1 || (number == 2 && text)) ≡ true → ((number == 1 || number == 2) ≡ true) × ((if number == 2 && not text then Some NameText else None) ≡ None)
name_stands number text is = (elim (eqb number 1) as (λ b. eqb number 1 ≡ b → ((number == 1 || number == 2) ≡ true) × ((if number == 2 && not text then Some NameText else None) ≡ None)) [
  | true ↦ λ one. rw (eqb-true number 1 one) (refl, refl)
  | false ↦ λ not_one. (elim (eqb number 2) as (λ b. eqb number 2 ≡ b → ((number == 1 || number == 2) ≡ true) × ((if number == 2 && not text then Some NameText else None) ≡ None)) [
    | true ↦ λ two. let told : text ≡ true = rw (not_one, two) at is in rw (not_one, two, told) (refl, refl)
    | false ↦ λ not_two. absurd (false≢true (rw (not_one, not_two) at is))
  ]) refl
]) refl

-- a field that may stand, by its key and its content
pub content_told : (before number : ℕ) (content : Content) → link_key_fault before number (wire_type content) ≡ None → name_fault number content ≡ None → is_link_content number content ≡ true
content_told before number (Varint value) key name = varint_key before number key
content_told before number (Fixed64 bytes) key name = absurd (fixed64_key before number key)
content_told before number (Part bytes) key name = name_told (number == 1) (number == 2) (is_utf8 bytes) (part_key before number key) name
content_told before number (Fixed32 bytes) key name = absurd (fixed32_key before number key)

pub content_stands : (before number : ℕ) (content : Content) → before < number → is_link_content number content ≡ true →
    (link_key_fault before number (wire_type content) ≡ None) × (name_fault number content ≡ None)
content_stands before number (Varint value) above is = (varint_stands before number above is, refl)
content_stands before number (Fixed64 bytes) above is = absurd (false≢true is)
content_stands before number (Part bytes) above is =
    let stands = name_stands number (is_utf8 bytes) is in
    (part_stands before number above stands.0, stands.1)
content_stands before number (Fixed32 bytes) above is = absurd (false≢true is)

abbrev pub is_allowed : Field → Bool
is_allowed field = is_link_content field.number field.content

-- the fields of a link without a fault
pub record LinkFields (before : ℕ) (fronts : List Placed) : Type 0 where
  pub fields : List Field
  pub read : fields_in fronts ≡ Some fields
  pub ascending : Ascends before fields
  pub allowed : IsTrue (list_all is_allowed fields)

pub no_fault_at : (at : ℕ) (kind : Option NodeFaultKind) → fault_at at kind ≡ None → kind ≡ None
no_fault_at at None e = refl
no_fault_at at (Some kind) e = some_is_no e

link_fields_front : (before at : ℕ) (front : Front) (rest : List Placed) → link_fault before (record { at = at; front = front } ∷ rest) ≡ None →
    ((next : ℕ) → link_fault next rest ≡ None → LinkFields next rest) → LinkFields before (record { at = at; front = front } ∷ rest)
link_fields_front before at (NoKey fault) rest e smaller = some_is_no e
link_fields_front before at (NoContent number wire fault) rest e smaller =
    let front = neither (fault_at at (link_front_fault before (NoContent number wire fault))) (link_fault number rest) e in
    let parts = neither (link_key_fault before number wire) (Some (wire_kind fault)) (no_fault_at at (link_front_fault before (NoContent number wire fault)) front.0) in
    some_is_no parts.1
link_fields_front before at (Whole field len) rest e smaller =
    let front = neither (fault_at at (link_front_fault before (Whole field len))) (link_fault field.number rest) e in
    let parts = neither (link_key_fault before field.number (wire_type field.content)) (name_fault field.number field.content) (no_fault_at at (link_front_fault before (Whole field len)) front.0) in
    let more = smaller field.number front.1 in
    record {
      fields = field ∷ more.fields;
      read = rw more.read;
      ascending = (key_above before field.number (wire_type field.content) parts.0, more.ascending);
      allowed = and_from (is_allowed field) (list_all is_allowed more.fields) (content_told before field.number field.content parts.0 parts.1) more.allowed;
    }

pub link_fields : (before : ℕ) (fronts : List Placed) → link_fault before fronts ≡ None → LinkFields before fronts
link_fields before [] e = record { fields = []; read = refl; ascending = tt; allowed = refl }
link_fields before (placed ∷ rest) e = link_fields_front before placed.at placed.front rest e (λ next. link_fields next rest)

link_is_fine_front : (before at : ℕ) (front : Front) (rest : List Placed) (fields : List Field) → onto_fields front (fields_in rest) ≡ Some fields → Ascends before fields → IsTrue (list_all is_allowed fields) →
    ((next : ℕ) (more : List Field) → fields_in rest ≡ Some more → Ascends next more → IsTrue (list_all is_allowed more) → link_fault next rest ≡ None) →
    link_fault before (record { at = at; front = front } ∷ rest) ≡ None
link_is_fine_front before at (NoKey fault) rest fields e ascending allowed smaller = none_is_no e
link_is_fine_front before at (NoContent number wire fault) rest fields e ascending allowed smaller = none_is_no e
link_is_fine_front before at (Whole field len) rest fields e ascending allowed smaller =
    let all = all_fields field rest fields e in
    let above : (before < field.number) × Ascends field.number all.more = rw all.are at ascending in
    let tests = and_parts (is_allowed field) (list_all is_allowed all.more) (rw all.are at allowed) in
    let stands = content_stands before field.number field.content above.0 tests.0 in
    rw (stands.0, stands.1, smaller field.number all.more all.read above.1 tests.1)

-- the fields of a link have no fault
pub link_is_fine : (before : ℕ) (fronts : List Placed) (fields : List Field) → fields_in fronts ≡ Some fields → Ascends before fields → IsTrue (list_all is_allowed fields) → link_fault before fronts ≡ None
link_is_fine before [] fields e ascending allowed = refl
link_is_fine before (placed ∷ rest) fields e ascending allowed = link_is_fine_front before placed.at placed.front rest fields e ascending allowed (λ next. link_is_fine next rest)
