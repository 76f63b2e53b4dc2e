-- The fields of an entry that have no fault.
use Rattle.std.proofs.Common.{◌≡◌, ℕ, List, [], ◌∷◌, Bool, true, false, refl, Some, None, ◌==◌, ◌&&◌, ◌||◌, not}
use Rattle.std.proofs.lemmas.Bool.{false≢true}
use Rattle.std.specs.Bool.{if◌then◌else◌}
use Rattle.std.specs.List.{list_all}
use Rattle.std.specs.Str.{is_utf8}
use Rattle.mc_base.specs.Wire.{Field, Content, Varint, Fixed64, Part, Fixed32}
use Rattle.mc_base.specs.WireRead.{Front, NoKey, NoContent, Whole, Placed, fields_in, onto_fields}
use Rattle.mc_wire.proofs.AllFields.{all_fields, none_is_no, some_is_no, neither}
use Rattle.mc_model.specs.DeltaText.{DeltaFault, TextFault, entry_fault, text_fault, is_text, parts_of}
use Rattle.mc_delta.proofs.Passing.{passes, field_passes, pass_more, pass_less}

-- the keys and the ids of the fields are texts
abbrev pub are_texts : List Field → Bool
are_texts fields = list_all is_utf8 (parts_of 1 fields) && list_all is_utf8 (parts_of 2 fields)

-- a field that is no key and no id, or one that is a text
abbrev pub has_text : Field → Bool
has_text field = field_passes is_utf8 field

is_text_passes : (content : Content) → is_text content ≡ passes is_utf8 content
is_text_passes (Varint value) = refl
is_text_passes (Fixed64 bytes) = refl
is_text_passes (Part bytes) = refl
is_text_passes (Fixed32 bytes) = refl

text_told : (at : ℕ) (field : Field) → text_fault at field ≡ None → has_text field ≡ true
text_told at field e = (elim ((field.number == 1 || field.number == 2) && not (passes is_utf8 field.content)) as (λ b. ((field.number == 1 || field.number == 2) && not (passes is_utf8 field.content)) ≡ b → not b ≡ true) [
  | true ↦ λ bad. some_is_no (rw (is_text_passes field.content, bad) at e)
  | false ↦ λ fine. refl
]) refl

abbrev no_text_at : ℕ → DeltaFault
no_text_at at = record { kind = TextFault; at = at }

text_stands : (at : ℕ) (field : Field) → has_text field ≡ true → text_fault at field ≡ None
text_stands at field e = rw (is_text_passes field.content) ((elim ((field.number == 1 || field.number == 2) && not (passes is_utf8 field.content)) as (λ b. not b ≡ true → (if b then Some (no_text_at at) else None) ≡ None) [
  | true ↦ λ bad. absurd (false≢true bad)
  | false ↦ λ fine. refl
]) e)

-- an entry without a fault
pub record EntryFields (fronts : List Placed) : Type 0 where
  pub fields : List Field
  pub read : fields_in fronts ≡ Some fields
  pub texts : are_texts fields ≡ true

entry_front : (at : ℕ) (front : Front) (rest : List Placed) → entry_fault (record { at = at; front = front } ∷ rest) ≡ None → (entry_fault rest ≡ None → EntryFields rest) → EntryFields (record { at = at; front = front } ∷ rest)
entry_front at (NoKey fault) rest e smaller = some_is_no e
entry_front at (NoContent number wire fault) rest e smaller = some_is_no e
entry_front at (Whole field len) rest e smaller =
    let parts = neither (text_fault at field) (entry_fault rest) e in
    let more = smaller parts.1 in
    record { fields = field ∷ more.fields; read = rw more.read; texts = pass_more is_utf8 field more.fields (text_told at field parts.0) more.texts }

pub entry_fields : (fronts : List Placed) → entry_fault fronts ≡ None → EntryFields fronts
entry_fields [] e = record { fields = []; read = refl; texts = refl }
entry_fields (placed ∷ rest) e = entry_front placed.at placed.front rest e (entry_fields rest)

entry_is_fine_front : (at : ℕ) (front : Front) (rest : List Placed) (fields : List Field) → onto_fields front (fields_in rest) ≡ Some fields → are_texts fields ≡ true →
    ((more : List Field) → fields_in rest ≡ Some more → are_texts more ≡ true → entry_fault rest ≡ None) → entry_fault (record { at = at; front = front } ∷ rest) ≡ None
entry_is_fine_front at (NoKey fault) rest fields e texts smaller = none_is_no e
entry_is_fine_front at (NoContent number wire fault) rest fields e texts smaller = none_is_no e
entry_is_fine_front at (Whole field len) rest fields e texts smaller =
    let all = all_fields field rest fields e in
    let parts = pass_less is_utf8 field all.more (rw all.are at texts) in
    rw (text_stands at field parts.0) (smaller all.more all.read parts.1)

-- an entry whose keys and ids are texts has no fault
pub entry_is_fine : (fronts : List Placed) (fields : List Field) → fields_in fronts ≡ Some fields → are_texts fields ≡ true → entry_fault fronts ≡ None
entry_is_fine [] fields e texts = refl
entry_is_fine (placed ∷ rest) fields e texts = entry_is_fine_front placed.at placed.front rest fields e texts (entry_is_fine rest)
