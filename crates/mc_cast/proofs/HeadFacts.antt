-- A head is read field by field.
use Rattle.std.proofs.Common.{◌≡◌, ℕ, ◌≤◌, List, [], ◌∷◌, length, Option, None, Some, refl, sym, ap, ◌∙◌, arith}
use Rattle.std.specs.Prelude.{option_map, option_and_then, unwrap_or}
use Rattle.std.specs.List.{cons_option}
use Rattle.mc_base.specs.Cid.{cid_digest}
use Rattle.mc_base.specs.Wire.{Field, part_of, parts_of}
use Rattle.mc_base.specs.WireRead.{Placed, fields_in, fields_of, fronts_from}
use Rattle.mc_wire.specs.Named.{FaultAt, FieldAt, fault_named, field_at, fronts_at}
use Rattle.mc_wire.specs.declared.fault.WireFaultAt.{WireFaultAt}
use Rattle.mc_wire.specs.declared.field.Field.{Field as PlacedField}
use Rattle.mc_cast.specs.Cast.{digest_in, first_fault, last_of}
use Rattle.mc_cast.specs.Steps.{digest_after}

-- what is named after more fields
abbrev pub after_fields : Option (List ℕ) → List Field → Option (List ℕ)
after_fields named fields = digest_after named (last_of (parts_of 1 fields))

-- a head is read up to here: the rest has the faults of the whole, and what is named so far and the rest give its name
pub record IsHeadRead (text : List ℕ) (at : ℕ) (named : Option (List ℕ)) : Type 0 where
  pub in_text : at ≤ length text
  pub sound : first_fault (fronts_at text at) ≡ first_fault (fronts_from 0 text)
  pub names : option_map (after_fields named) (fields_in (fronts_at text at)) ≡ option_map digest_in (fields_of text)

nothing_named : (parts : Option (List ℕ)) → digest_after None parts ≡ option_and_then cid_digest parts
nothing_named None = refl
nothing_named (Some part) = refl

begin_names : (fields : Option (List Field)) → option_map (after_fields None) fields ≡ option_map digest_in fields
begin_names None = refl
begin_names (Some fields) = ap (λ (named : Option (List ℕ)). Some named) (nothing_named (last_of (parts_of 1 fields)))

pub head_begun : (text : List ℕ) → IsHeadRead text 0 None
head_begun text = record { in_text = omega arith; sound = refl; names = begin_names (fields_of text) }

after_part : (named part : Option (List ℕ)) (parts : List (List ℕ)) → digest_after named (last_of (cons_option part parts)) ≡ digest_after (digest_after named part) (last_of parts)
after_part named None parts = refl
after_part named (Some bytes) parts = by_last (last_of parts)
  where
    by_last : (last : Option (List ℕ)) → cid_digest (unwrap_or last bytes) ≡ digest_after (cid_digest bytes) last
    by_last None = refl
    by_last (Some other) = refl

names_step : (named : Option (List ℕ)) (field : Field) (rest : Option (List Field)) → option_map (after_fields named) (option_map (λ fields. field ∷ fields) rest) ≡ option_map (after_fields (digest_after named (part_of 1 field))) rest
names_step named field None = refl
names_step named field (Some fields) = ap (λ (name : Option (List ℕ)). Some name) (after_part named (part_of 1 field) (parts_of 1 fields))

-- one field more
pub head_next : (text : List ℕ) (at : ℕ) (named new : Option (List ℕ)) (field : PlacedField) → IsHeadRead text at named → FieldAt text at field → new ≡ digest_after named (part_of 1 (field_at text field)) → IsHeadRead text field.next new
head_next text at named new field reading found is = record {
  in_text = found.ends;
  sound = sym (ap first_fault found.fronts) ∙ reading.sound;
  names = rw is (sym (names_step named (field_at text field) (fields_in (fronts_at text field.next))) ∙ sym (ap (λ (fronts : List Placed). option_map (after_fields named) (fields_in fronts)) found.fronts) ∙ reading.names);
}

-- all is read
pub head_done : (text : List ℕ) (at : ℕ) (named : Option (List ℕ)) → IsHeadRead text at named → fronts_at text at ≡ [] → (option_map digest_in (fields_of text) ≡ Some named) × (first_fault (fronts_from 0 text) ≡ None)
head_done text at named reading none = (
  sym reading.names ∙ rw none refl,
  sym reading.sound ∙ rw none refl,
)

-- a fault is the first
pub head_fault : (text : List ℕ) (at : ℕ) (named : Option (List ℕ)) (fault : WireFaultAt) → IsHeadRead text at named → FaultAt text at fault → first_fault (fronts_from 0 text) ≡ Some (fault_named fault.kind)
head_fault text at named fault reading found = sym reading.sound ∙ rw (found.fronts, found.kind) refl
