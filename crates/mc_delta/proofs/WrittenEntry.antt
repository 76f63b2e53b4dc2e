-- What is written for an entry is read as it.
use Rattle.std.proofs.Common.{◌≡◌, ℕ, ◌<◌, ◌≤◌, ◌^◌, List, [], ◌∷◌, ◌++◌, length, true, refl, sym, arith, append_assoc, length-append, Some}
use Rattle.std.proofs.lemmas.List.{append-nil}
use Rattle.std.specs.Str.{is_utf8}
use Rattle.mc_base.specs.Wire.{Field, Fields, IsPiece, Part, part_field_bytes}
use Rattle.mc_base.specs.WireRead.{fields_of}
use Rattle.mc_model.specs.DeltaText.{some_part, entry_bytes, entry_of, last_part}
use Rattle.mc_wire.proofs.FieldFacts.{fields_are_read}
use Rattle.mc_wire.proofs.WrittenFacts.{part_field_is_written}
use Rattle.mc_delta.proofs.EntryLaw.{are_texts}
use Rattle.mc_delta.proofs.LengthFacts.{part_field_len}

-- the fields of two texts are those of both
pub fields_joined : (first second : List ℕ) (fields more : List Field) → Fields first fields → Fields second more → Fields (first ++ second) (fields ++ more)
fields_joined first second [] more none after = rw none after
fields_joined first second (field ∷ fields) more (piece, rest, parts, is, before) after =
    (piece, rest ++ second, rw parts (append_assoc piece rest second), is, fields_joined rest second fields more before after)

-- one field
pub one_field : (bytes : List ℕ) (field : Field) → IsPiece bytes field → Fields bytes (field ∷ [])
one_field bytes field is = (bytes, [], sym (append-nil bytes), is, refl)

abbrev pub some_field : ℕ → List ℕ → List Field
some_field number [] = []
some_field number (byte ∷ bytes) = record { number = number; content = Part (byte ∷ bytes) } ∷ []

some_part_fields : (number : ℕ) (part : List ℕ) → 1 ≤ number → number ≤ 15 → length part < 2 ^ 64 → Fields (some_part number part) (some_field number part)
some_part_fields number [] some small fits = refl
some_part_fields number (byte ∷ bytes) some small fits = one_field (part_field_bytes number (byte ∷ bytes)) _ (part_field_is_written number (byte ∷ bytes) some small fits)

abbrev pub entry_fields_of : List ℕ → List ℕ → List ℕ → List Field
entry_fields_of key id value = (some_field 1 key ++ some_field 2 id) ++ some_field 3 value

part_within : (number : ℕ) (part : List ℕ) → number ≤ 15 → length part ≤ length (some_part number part)
part_within number [] small = omega arith
part_within number (byte ∷ bytes) small = omega (arith, part_field_len number (byte ∷ bytes) small)

entry_fields_are : (key id value : List ℕ) → length (entry_bytes key id value) < 2 ^ 64 → Fields (entry_bytes key id value) (entry_fields_of key id value)
entry_fields_are key id value fits =
    let whole = length-append (some_part 1 key ++ some_part 2 id) (some_part 3 value) in
    let first = length-append (some_part 1 key) (some_part 2 id) in
    fields_joined (some_part 1 key ++ some_part 2 id) (some_part 3 value) (some_field 1 key ++ some_field 2 id) (some_field 3 value)
    (fields_joined (some_part 1 key) (some_part 2 id) (some_field 1 key) (some_field 2 id)
    (some_part_fields 1 key (omega arith) (omega arith) (omega (arith, part_within 1 key (omega arith), whole, first)))
    (some_part_fields 2 id (omega arith) (omega arith) (omega (arith, part_within 2 id (omega arith), whole, first))))
    (some_part_fields 3 value (omega arith) (omega arith) (omega (arith, part_within 3 value (omega arith), whole)))

entry_texts : (key id value : List ℕ) → is_utf8 key ≡ true → is_utf8 id ≡ true → are_texts (entry_fields_of key id value) ≡ true
entry_texts [] [] [] key_text id_text = refl
entry_texts [] [] (v ∷ value) key_text id_text = refl
entry_texts [] (i ∷ id) [] key_text id_text = rw id_text
entry_texts [] (i ∷ id) (v ∷ value) key_text id_text = rw id_text
entry_texts (k ∷ key) [] [] key_text id_text = rw key_text
entry_texts (k ∷ key) [] (v ∷ value) key_text id_text = rw key_text
entry_texts (k ∷ key) (i ∷ id) [] key_text id_text = rw (key_text, id_text)
entry_texts (k ∷ key) (i ∷ id) (v ∷ value) key_text id_text = rw (key_text, id_text)

-- fields that are all text are an entry
entry_read : (text : List ℕ) (fields : List Field) → fields_of text ≡ Some fields → are_texts fields ≡ true → entry_of text ≡ Some fields
entry_read text fields read texts = rw (read, texts)

-- a written entry is read as its fields
pub entry_is_read : (key id value : List ℕ) → is_utf8 key ≡ true → is_utf8 id ≡ true → length (entry_bytes key id value) < 2 ^ 64 → entry_of (entry_bytes key id value) ≡ Some (entry_fields_of key id value)
entry_is_read key id value key_text id_text fits =
    entry_read (entry_bytes key id value) (entry_fields_of key id value) (fields_are_read 0 (entry_bytes key id value) (entry_fields_of key id value) (entry_fields_are key id value fits)) (entry_texts key id value key_text id_text)

-- what the fields of an entry hold
pub last_key : (key id value : List ℕ) → last_part 1 (entry_fields_of key id value) ≡ key
last_key [] [] [] = refl
last_key [] [] (v ∷ value) = refl
last_key [] (i ∷ id) [] = refl
last_key [] (i ∷ id) (v ∷ value) = refl
last_key (k ∷ key) [] [] = refl
last_key (k ∷ key) [] (v ∷ value) = refl
last_key (k ∷ key) (i ∷ id) [] = refl
last_key (k ∷ key) (i ∷ id) (v ∷ value) = refl

pub last_id : (key id value : List ℕ) → last_part 2 (entry_fields_of key id value) ≡ id
last_id [] [] [] = refl
last_id [] [] (v ∷ value) = refl
last_id [] (i ∷ id) [] = refl
last_id [] (i ∷ id) (v ∷ value) = refl
last_id (k ∷ key) [] [] = refl
last_id (k ∷ key) [] (v ∷ value) = refl
last_id (k ∷ key) (i ∷ id) [] = refl
last_id (k ∷ key) (i ∷ id) (v ∷ value) = refl

pub last_value : (key id value : List ℕ) → last_part 3 (entry_fields_of key id value) ≡ value
last_value [] [] [] = refl
last_value [] [] (v ∷ value) = refl
last_value [] (i ∷ id) [] = refl
last_value [] (i ∷ id) (v ∷ value) = refl
last_value (k ∷ key) [] [] = refl
last_value (k ∷ key) [] (v ∷ value) = refl
last_value (k ∷ key) (i ∷ id) [] = refl
last_value (k ∷ key) (i ∷ id) (v ∷ value) = refl
