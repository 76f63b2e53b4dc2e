-- A message is read field by field.
use Rattle.std.proofs.Common.{◌≡◌, ℕ, ◌≤◌, List, [], ◌∷◌, ◌++◌, length, drop, append_assoc, append-nil, Option, None, Some, refl, sym, ap, ◌∙◌, arith}
use Rattle.std.specs.Prelude.{option_map, option_and_then}
use Rattle.mc_base.specs.Wire.{Field, part_of}
use Rattle.mc_base.specs.WireRead.{Front, NoKey, NoContent, Placed, WireFault, Whole, fault_of, fields_in, fields_of, front_of, fronts_from}
use Rattle.mc_wire.specs.Named.{FaultAt, FieldAt, fault_named, field_at, fronts_at}
use Rattle.mc_wire.specs.declared.fault.WireFaultAt.{WireFaultAt}
use Rattle.mc_wire.specs.declared.field.Field.{Field as PlacedField}
use Rattle.mc_cast.specs.declared.fault.CastFault.TheVariants.{Wire, BadCid}
use Rattle.mc_cast.specs.declared.fault.CastError.{CastError}
use Rattle.mc_cast.specs.declared.fault.CastError.TheVariants.{Memory, Fault}
use Rattle.mc_cast.specs.declared.message.Heads.{Heads}
use Rattle.mc_cast.specs.Cast.{cast_fault, digest_in, fault_at, heads_in, heads_of}
use Rattle.mc_cast.specs.Reads.{IsCast, IsFaultOf, IsUnnamed}
use Rattle.mc_cast.specs.Steps.{IsFaultIn, StandFor, TakesHead, digests_of}

-- heads before others, where these are known
abbrev pub before : List (Option (List ℕ)) → Option (List (Option (List ℕ))) → Option (List (Option (List ℕ)))
before heads None = None
before heads (Some others) = Some (heads ++ others)

-- the heads of what is left
abbrev pub heads_left : List Placed → Option (List (Option (List ℕ)))
heads_left fronts = option_and_then heads_in (fields_in fronts)

-- a message is read up to here: the rest has the faults of the whole, and the heads so far and those of the rest are its
pub record IsRead (text : List ℕ) (at : ℕ) (kept : Heads) : Type 0 where
  pub in_text : at ≤ length text
  pub sound : cast_fault (fronts_at text at) ≡ cast_fault (fronts_from 0 text)
  pub done : List (Option (List ℕ))
  pub kept_is : StandFor kept done
  pub heads : before done (heads_left (fronts_at text at)) ≡ heads_of text

before_nothing : (heads : Option (List (Option (List ℕ)))) → before [] heads ≡ heads
before_nothing None = refl
before_nothing (Some heads) = refl

pub read_begun : (text : List ℕ) (kept : Heads) → kept.unnamed ≡ None → kept.cids ≡ [] → IsRead text 0 kept
read_begun text kept none empty = record {
  in_text = omega arith;
  sound = refl;
  done = [];
  kept_is = record { all_named = λ _. rw empty refl; unnamed = rw none tt };
  heads = before_nothing (heads_of text);
}

-- one field that is no head, and one that is
heads_same : (field : Field) (rest : Option (List Field)) → part_of 1 field ≡ None → option_and_then heads_in (option_map (λ fields. field ∷ fields) rest) ≡ option_and_then heads_in rest
heads_same field None none = refl
heads_same field (Some fields) none = rw none refl

heads_more : (field : Field) (rest : Option (List Field)) (body : List ℕ) (named : Option (List ℕ)) → part_of 1 field ≡ Some body → option_map digest_in (fields_of body) ≡ Some named
    → option_and_then heads_in (option_map (λ fields. field ∷ fields) rest) ≡ option_map (λ others. named ∷ others) (option_and_then heads_in rest)
heads_more field None body named is names = refl
heads_more field (Some fields) body named is names = rw is (by_body (fields_of body) names)
  where
    by_body : (body_fields : Option (List Field)) → option_map digest_in body_fields ≡ Some named
        → option_and_then (λ fields'. option_map (λ others. digest_in fields' ∷ others) (heads_in fields)) body_fields ≡ option_map (λ others. named ∷ others) (heads_in fields)
    by_body None h = absurd (cc)
    by_body (Some fields') h = let same : digest_in fields' ≡ named = cc in ap (λ (name : Option (List ℕ)). option_map (λ others. name ∷ others) (heads_in fields)) same

before_more : (heads : List (Option (List ℕ))) (named : Option (List ℕ)) (others : Option (List (Option (List ℕ)))) → before heads (option_map (λ others'. named ∷ others') others) ≡ before (heads ++ named ∷ []) others
before_more heads named None = refl
before_more heads named (Some others) = ap (λ (all : List (Option (List ℕ))). Some all) (sym (append_assoc heads (named ∷ []) others))

-- one field more
pub read_next : (text : List ℕ) (at : ℕ) (kept new : Heads) (field : PlacedField) → IsRead text at kept → FieldAt text at field → TakesHead (part_of 1 (field_at text field)) kept new → IsRead text field.next new
read_next text at kept new field reading found takes = by_part (part_of 1 (field_at text field)) refl takes
  where
    by_part : (part : Option (List ℕ)) → part_of 1 (field_at text field) ≡ part → TakesHead part kept new → IsRead text field.next new
    by_part None none same = record {
      in_text = found.ends;
      sound = sym (ap cast_fault found.fronts ∙ rw none refl) ∙ reading.sound;
      done = reading.done;
      kept_is = rw same reading.kept_is;
      heads = ap (before reading.done) (sym (ap heads_left found.fronts ∙ heads_same (field_at text field) (fields_in (fronts_at text field.next)) none)) ∙ reading.heads;
    }
    by_part (Some body) is takes' = record {
      in_text = found.ends;
      sound = sym (ap cast_fault found.fronts ∙ rw (is, takes'.2) refl) ∙ reading.sound;
      done = reading.done ++ takes'.0 ∷ [];
      kept_is = takes'.3 reading.done reading.kept_is;
      heads = sym (ap (before reading.done) (ap heads_left found.fronts ∙ heads_more (field_at text field) (fields_in (fronts_at text field.next)) body takes'.0 is takes'.1) ∙ before_more reading.done takes'.0 (heads_left (fronts_at text field.next))) ∙ reading.heads;
    }

read_whole : (text : List ℕ) (at : ℕ) (kept : Heads) (reading : IsRead text at kept) → fronts_at text at ≡ [] → (cast_fault (fronts_from 0 text) ≡ None) × (heads_of text ≡ Some reading.done)
read_whole text at kept reading none = (
  sym reading.sound ∙ rw none refl,
  sym reading.heads ∙ rw none (ap (λ (heads : List (Option (List ℕ))). Some heads) (append-nil reading.done)),
)

-- all is read, and each head named an identifier
pub read_named : (text : List ℕ) (at : ℕ) (kept : Heads) → IsRead text at kept → fronts_at text at ≡ [] → kept.unnamed ≡ None → IsCast text (digests_of kept.cids)
read_named text at kept reading none named =
    let whole = read_whole text at kept reading none in
    record { sound = whole.0; heads = whole.1 ∙ ap (λ (heads : List (Option (List ℕ))). Some heads) (reading.kept_is.all_named named) }

-- all is read, and this head was the first that named none
pub read_unnamed : (text : List ℕ) (at : ℕ) (kept : Heads) (index : ℕ) → IsRead text at kept → fronts_at text at ≡ [] → kept.unnamed ≡ Some index → IsUnnamed text index
read_unnamed text at kept index reading none unnamed =
    let whole = read_whole text at kept reading none in
    record { sound = whole.0; heads = reading.done; are = whole.1; first = rw unnamed at reading.kept_is.unnamed }

fault_stays : (front : Front) (fault : WireFault) → fault_of front ≡ Some fault → fault_at front ≡ Some fault
fault_stays (NoKey other) fault h = h
fault_stays (NoContent number wire other) fault h = h
fault_stays (Whole field len) fault h = absurd (cc)

-- a fault of the message is the first
pub read_fault : (text : List ℕ) (at : ℕ) (kept : Heads) (fault : WireFaultAt) → IsRead text at kept → FaultAt text at fault → cast_fault (fronts_from 0 text) ≡ Some (fault_named fault.kind)
read_fault text at kept fault reading found = sym reading.sound ∙ rw (found.fronts, fault_stays (front_of (drop at text)) (fault_named fault.kind) found.kind) refl

-- a fault in a head is the first
pub head_fault : (text : List ℕ) (at : ℕ) (kept : Heads) (field : PlacedField) (error : CastError) → IsRead text at kept → FieldAt text at field → IsFaultIn (part_of 1 (field_at text field)) error → IsFaultOf text error
head_fault text at kept field Memory reading found h = tt
head_fault text at kept field (Fault (Wire fault)) reading found h = sym reading.sound ∙ ap cast_fault found.fronts ∙ rw h refl
head_fault text at kept field (Fault (BadCid index)) reading found h = absurd h
