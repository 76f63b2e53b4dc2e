-- The Hash of a link.
use Rattle.std.proofs.Common.{◌≡◌, ℕ, ◌≤◌, List, [], ◌∷◌, length, true, false, refl, arith, Option, Some, None, Result, Ok, ◌==◌}
use Rattle.std.proofs.Math.Dec.{eqb}
use Rattle.std.proofs.lemmas.Bool.{eqb-true, ne_eqb, false≢true, and_parts}
use Rattle.std.specs.List.{list_all, cons_option}
use Rattle.std.specs.Prelude.{IsTrue}
use Rattle.mc_base.specs.Wire.{Field, Content, Varint, Fixed64, Part, Fixed32, bytes_held, parts_of}
use Rattle.mc_base.specs.WireRead.{fronts_from}
use Rattle.mc_base.specs.Node.{IsLink, Ascends, is_link_content}
use Rattle.mc_base.specs.NodeRead.{NodeFault, link_of, link_fault, unless, hash_or, first_of, parts_in}
use Rattle.mc_wire.proofs.FieldFacts.{fields_are_read, fields_found}
use Rattle.mc_wire.proofs.AllFields.{none_is_no}
use Rattle.mc_dagpb.proofs.FrontFields.{parts_of_fields}
use Rattle.mc_dagpb.proofs.LinkLaw.{link_fields, link_is_fine, is_allowed}
use Rattle.mc_dagpb.proofs.StepFacts.{hash_read}

-- no Hash after another field
none_after : (before : ℕ) (fields : List Field) → 1 ≤ before → Ascends before fields → parts_of 1 fields ≡ []
none_after before [] some ascending = refl
none_after before (field ∷ fields) some (above, ascending) =
    let other : field.number == 1 ≡ false = ne_eqb field.number 1 (λ e. omega arith) in
    rw other (none_after field.number fields (omega arith) ascending)

-- the fields of a link with a Hash begin with it
pub record HashFirst (fields : List Field) (hash : List ℕ) : Type 0 where
  pub others : List Field
  pub are : fields ≡ record { number = 1; content = Part hash } ∷ others

hash_content : (number : ℕ) (content : Content) (fields : List Field) (hash : List ℕ) → number ≡ 1 → is_link_content number content ≡ true →
    first_of (cons_option (bytes_held content) (parts_of 1 fields)) ≡ Some hash → HashFirst (record { number = number; content = content } ∷ fields) hash
hash_content number (Varint value) fields hash one allowed found = absurd (false≢true (rw one at allowed))
hash_content number (Fixed64 bytes) fields hash one allowed found = absurd (false≢true allowed)
hash_content number (Part bytes) fields hash one allowed found =
    let same : bytes ≡ hash = cc in
    record { others = fields; are = rw (one, same) }
hash_content number (Fixed32 bytes) fields hash one allowed found = absurd (false≢true allowed)

hash_first : (fields : List Field) (hash : List ℕ) → Ascends 0 fields → IsTrue (list_all is_allowed fields) → first_of (parts_of 1 fields) ≡ Some hash → HashFirst fields hash
hash_first [] hash ascending allowed found = none_is_no found
hash_first (field ∷ fields) hash (above, ascending) allowed found = (elim (eqb field.number 1) as (λ b. eqb field.number 1 ≡ b → HashFirst (field ∷ fields) hash) [
  | true ↦ λ one. hash_content field.number field.content fields hash (eqb-true field.number 1 one) (and_parts (is_allowed field) (list_all is_allowed fields) allowed).0 (rw one at found)
  | false ↦ λ other. none_is_no (rw (other, none_after field.number fields above ascending) at found)
]) refl

unless_none : {A : Type 0} (fault : Option NodeFault) (read : Result A NodeFault) (value : A) → unless fault read ≡ Ok value → fault ≡ None
unless_none None read value e = refl
unless_none (Some fault) read value e = absurd (cc)

-- what is read as a link is one
pub link_told : (key from : ℕ) (body hash : List ℕ) → link_of key from body ≡ Ok hash → IsLink body hash
link_told key from body hash e =
    let fronts = fronts_from from body in
    let found = hash_read key (link_fault 0 fronts) (first_of (parts_in 1 fronts)) hash e in
    let fields = link_fields 0 fronts (unless_none (link_fault 0 fronts) (hash_or key (first_of (parts_in 1 fronts))) hash e) in
    let first = hash_first fields.fields hash fields.ascending fields.allowed (rw (parts_of_fields 1 fronts fields.fields fields.read) at found) in
    record {
      fields = fields.fields;
      others = first.others;
      parts = fields_found (length body) from body fields.fields (omega arith) fields.read;
      hash_first = first.are;
      ascending = fields.ascending;
      allowed = fields.allowed;
    }

-- a link is read as its Hash, wherever it stands
pub link_is_read : (key from : ℕ) (body hash : List ℕ) → IsLink body hash → link_of key from body ≡ Ok hash
link_is_read key from body hash link =
    let fronts = fronts_from from body in
    let read = fields_are_read from body link.fields link.parts in
    let found : first_of (parts_in 1 fronts) ≡ Some hash = rw (parts_of_fields 1 fronts link.fields read, link.hash_first) in
    rw (link_is_fine 0 fronts link.fields read link.ascending link.allowed, found)
