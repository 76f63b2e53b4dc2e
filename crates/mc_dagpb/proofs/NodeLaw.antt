-- The fields that have no fault in a node.
use Rattle.std.proofs.Common.{◌≡◌, ℕ, ◌+◌, ◌-◌, List, [], ◌∷◌, ◌++◌, length, drop, true, false, refl, arith, Some, None, Result, Ok, Err, ◌⊎◌, inl, inr}
use Rattle.std.proofs.lemmas.Bool.Decides.{nat_tests}
use Rattle.std.specs.Option.{option_or}
use Rattle.mc_base.specs.Wire.{Field, Content, Varint, Fixed64, Part, Fixed32, wire_type}
use Rattle.mc_base.specs.WireRead.{Front, NoKey, NoContent, Whole, Placed, fields_in, onto_fields}
use Rattle.mc_base.specs.Node.{IsLink, link_field, data_field}
use Rattle.mc_base.specs.NodeRead.{NodeFault, wire_kind, node_key_fault, node_front_fault, node_fault, body_fault, link_of, fault_in, fault_at}
use Rattle.mc_wire.proofs.AllFields.{all_fields, none_is_no, neither, some_is_no}
use Rattle.mc_dagpb.specs.Before.{has_data}
use Rattle.mc_dagpb.proofs.LinkHash.{link_told, link_is_read}
use Rattle.mc_dagpb.proofs.LinkLaw.{no_fault_at}
use Rattle.mc_dagpb.proofs.NodeFacts.{none_before}

-- a Data where none stands before
pub record MayData (before : List ℕ) (field : Field) : Type 0 where
  pub payload : List ℕ
  pub are : field ≡ data_field payload
  pub fresh : has_data before ≡ false

-- a link where no Data stands before, unless it is the first
pub record MayLink (before : List ℕ) (field : Field) : Type 0 where
  pub body : List ℕ
  pub hash : List ℕ
  pub are : field ≡ link_field body
  pub fresh : has_data (drop 1 before) ≡ false
  pub link : IsLink body hash

-- fields that may stand after fields of these numbers
abbrev pub Fine : List ℕ → List Field → Type 0
Fine before [] = Unit {0}
Fine before (field ∷ fields) = (MayData before field ⊎ MayLink before field) × Fine (before ++ field.number ∷ []) fields

varint_key : (before : List ℕ) (number : ℕ) → node_key_fault before number 0 ≡ None → ⊥
varint_key before number e = grind (arith, nat_tests)

fixed64_key : (before : List ℕ) (number : ℕ) → node_key_fault before number 1 ≡ None → ⊥
fixed64_key before number e = grind (arith, nat_tests)

fixed32_key : (before : List ℕ) (number : ℕ) → node_key_fault before number 5 ≡ None → ⊥
fixed32_key before number e = grind (arith, nat_tests)

part_key : (before : List ℕ) (number : ℕ) → node_key_fault before number 2 ≡ None → (number ≡ 1) ⊎ (number ≡ 2)
part_key before number e = grind (arith, nat_tests)

link_before : (before : List ℕ) → node_key_fault before 2 2 ≡ None → has_data (drop 1 before) ≡ false
link_before before allowed = (elim (has_data (drop 1 before)) as (λ b. has_data (drop 1 before) ≡ b → b ≡ false) [ true ↦ λ e. some_is_no (rw e at allowed) | false ↦ λ e. refl ]) refl

-- a link without a fault
link_fine : (before : List ℕ) (key from : ℕ) (field : Field) (body : List ℕ) → field ≡ link_field body → has_data (drop 1 before) ≡ false → (read : Result (List ℕ) NodeFault) → link_of key from body ≡ read → fault_in read ≡ None → MayLink before field
link_fine before key from field body are fresh (Ok hash) read e = record { body = body; hash = hash; are = are; fresh = fresh; link = link_told key from body hash read }
link_fine before key from field body are fresh (Err fault) read e = some_is_no e

part_fine : (before : List ℕ) (at len number : ℕ) (part : List ℕ) → (number ≡ 1) ⊎ (number ≡ 2) → node_key_fault before number 2 ≡ None → body_fault at len (record { number = number; content = Part part }) ≡ None →
    MayData before (record { number = number; content = Part part }) ⊎ MayLink before (record { number = number; content = Part part })
part_fine before at len number part (inl one) key body = inl (record { payload = part; are = rw one; fresh = none_before before (rw one at key) })
part_fine before at len number part (inr two) key body =
    inr (link_fine before at (at + len - length part) (record { number = number; content = Part part }) part (rw two) (link_before before (rw two at key)) (link_of at (at + len - length part) part) refl (rw two at body))

field_fine : (before : List ℕ) (at len number : ℕ) (content : Content) → node_key_fault before number (wire_type content) ≡ None → body_fault at len (record { number = number; content = content }) ≡ None →
    MayData before (record { number = number; content = content }) ⊎ MayLink before (record { number = number; content = content })
field_fine before at len number (Varint value) key body = absurd (varint_key before number key)
field_fine before at len number (Fixed64 bytes) key body = absurd (fixed64_key before number key)
field_fine before at len number (Part bytes) key body = part_fine before at len number bytes (part_key before number key) key body
field_fine before at len number (Fixed32 bytes) key body = absurd (fixed32_key before number key)

-- fronts without a fault
pub record FineFronts (before : List ℕ) (fronts : List Placed) : Type 0 where
  pub fields : List Field
  pub read : fields_in fronts ≡ Some fields
  pub fine : Fine before fields

fine_front : (before : List ℕ) (at : ℕ) (front : Front) (rest : List Placed) → node_fault before (record { at = at; front = front } ∷ rest) ≡ None →
    ((next : List ℕ) → node_fault next rest ≡ None → FineFronts next rest) → FineFronts before (record { at = at; front = front } ∷ rest)
fine_front before at (NoKey fault) rest e smaller = some_is_no e
fine_front before at (NoContent number wire fault) rest e smaller =
    let front = neither (node_front_fault before at (NoContent number wire fault)) (node_fault (before ++ number ∷ []) rest) e in
    let parts = neither (node_key_fault before number wire) (Some (wire_kind fault)) (no_fault_at at (option_or (node_key_fault before number wire) (Some (wire_kind fault))) front.0) in
    some_is_no parts.1
fine_front before at (Whole field len) rest e smaller =
    let front = neither (node_front_fault before at (Whole field len)) (node_fault (before ++ field.number ∷ []) rest) e in
    let parts = neither (fault_at at (node_key_fault before field.number (wire_type field.content))) (body_fault at len field) front.0 in
    let more = smaller (before ++ field.number ∷ []) front.1 in
    record {
      fields = field ∷ more.fields;
      read = rw more.read;
      fine = (field_fine before at len field.number field.content (no_fault_at at (node_key_fault before field.number (wire_type field.content)) parts.0) parts.1, more.fine);
    }

pub fine_fronts : (before : List ℕ) (fronts : List Placed) → node_fault before fronts ≡ None → FineFronts before fronts
fine_fronts before [] e = record { fields = []; read = refl; fine = tt }
fine_fronts before (placed ∷ rest) e = fine_front before placed.at placed.front rest e (λ next. fine_fronts next rest)

-- a field that may stand has no fault, wherever it stands
stands : (before : List ℕ) (at len : ℕ) (field : Field) → MayData before field ⊎ MayLink before field → node_front_fault before at (Whole field len) ≡ None
stands before at len field (inl is) = rw (is.are, is.fresh)
stands before at len field (inr link) = rw (link.are, link.fresh, link_is_read at (at + len - length link.body) link.body link.hash link.link)

is_fine_front : (before : List ℕ) (at : ℕ) (front : Front) (rest : List Placed) (fields : List Field) → onto_fields front (fields_in rest) ≡ Some fields → Fine before fields →
    ((next : List ℕ) (more : List Field) → fields_in rest ≡ Some more → Fine next more → node_fault next rest ≡ None) → node_fault before (record { at = at; front = front } ∷ rest) ≡ None
is_fine_front before at (NoKey fault) rest fields e fine smaller = none_is_no e
is_fine_front before at (NoContent number wire fault) rest fields e fine smaller = none_is_no e
is_fine_front before at (Whole field len) rest fields e fine smaller =
    let all = all_fields field rest fields e in
    let parts : (MayData before field ⊎ MayLink before field) × Fine (before ++ field.number ∷ []) all.more = rw all.are at fine in
    rw (stands before at len field parts.0) (smaller (before ++ field.number ∷ []) all.more all.read parts.1)

pub is_fine : (before : List ℕ) (fronts : List Placed) (fields : List Field) → fields_in fronts ≡ Some fields → Fine before fields → node_fault before fronts ≡ None
is_fine before [] fields e fine = refl
is_fine before (placed ∷ rest) fields e fine = is_fine_front before placed.at placed.front rest fields e fine (λ next. is_fine next rest)
