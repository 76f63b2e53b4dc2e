-- A delta without a fault is the one that is read.
use Rattle.std.proofs.Common.{◌≡◌, ℕ, ◌+◌, ◌-◌, List, [], ◌∷◌, length, map, Bool, true, false, refl, sym, ◌∙◌, arith, Option, Some, None, ◌==◌, ◌&&◌, ◌||◌, not}
use Rattle.std.proofs.lemmas.Bool.{false≢true, and_parts}
use Rattle.std.specs.Bool.{if◌then◌else◌}
use Rattle.std.specs.List.{list_all}
use Rattle.std.specs.Option.{option_and_then, option_map}
use Rattle.std.specs.Prelude.{is_some, unwrap_or}
use Rattle.mc_base.specs.Wire.{Field, Content, Varint, Fixed64, Part, Fixed32}
use Rattle.mc_base.specs.WireRead.{Front, NoKey, NoContent, Whole, Placed, fields_in, fields_of, onto_fields, fronts_from}
use Rattle.mc_model.specs.DeltaText.{DeltaFault, delta_of, delta_of_fields, delta_with, delta_fault, delta_fault_in, entry_of, entry_fault, entry_part_fault, entries_of, all_some, parts_of}
use Rattle.mc_model.specs.declared.delta.Delta.{Delta}
use Rattle.mc_wire.proofs.FieldFacts.{fields_are_read, fields_found}
use Rattle.mc_wire.proofs.AllFields.{all_fields, none_is_no, some_is_no, neither}
use Rattle.mc_delta.specs.Deltas.{field_fault}
use Rattle.mc_delta.proofs.EntryLaw.{are_texts, entry_fields, entry_is_fine}
use Rattle.mc_delta.proofs.Passing.{passes, field_passes, all_pass, pass_more, pass_less}

-- whether bytes are an entry
abbrev pub has_entry : List ℕ → Bool
has_entry body = is_some (entry_of body)

abbrev pub entry_or_none : List ℕ → List Field
entry_or_none body = unwrap_or (entry_of body) []

-- the fields of a text, wherever its offsets begin
pub fields_anywhere : (first second : ℕ) (text : List ℕ) (fields : List Field) → fields_in (fronts_from first text) ≡ Some fields → fields_in (fronts_from second text) ≡ Some fields
fields_anywhere first second text fields read = fields_are_read second text fields (fields_found (length text) first text fields (omega arith) read)

pub entry_told : (from : ℕ) (body : List ℕ) → entry_fault (fronts_from from body) ≡ None → has_entry body ≡ true
entry_told from body fine =
    let fields = entry_fields (fronts_from from body) fine in
    rw (fields_anywhere from 0 body fields.fields fields.read, fields.texts)

entry_by : (body : List ℕ) (found : Option (List Field)) → option_and_then (λ fields. if are_texts fields then Some fields else None) found ≡ entry_of body → fields_of body ≡ found → has_entry body ≡ true → (from : ℕ) → entry_fault (fronts_from from body) ≡ None
entry_by body None same read fine from = absurd (false≢true (rw (← same) at fine))
entry_by body (Some fields) same read fine from = (elim (are_texts fields) as (λ b. are_texts fields ≡ b → entry_fault (fronts_from from body) ≡ None) [
  | true ↦ λ texts. entry_is_fine (fronts_from from body) fields (fields_anywhere 0 from body fields read) texts
  | false ↦ λ texts. absurd (false≢true (rw (← same, texts) at fine))
]) refl

pub entry_stands : (from : ℕ) (body : List ℕ) → has_entry body ≡ true → entry_fault (fronts_from from body) ≡ None
entry_stands from body fine = entry_by body (fields_of body) refl refl fine from

part_told : (end : ℕ) (content : Content) → entry_part_fault end content ≡ None → passes has_entry content ≡ true
part_told end (Varint value) e = refl
part_told end (Fixed64 bytes) e = refl
part_told end (Part body) e = entry_told (end - length body) body e
part_told end (Fixed32 bytes) e = refl

part_stands : (end : ℕ) (content : Content) → passes has_entry content ≡ true → entry_part_fault end content ≡ None
part_stands end (Varint value) e = refl
part_stands end (Fixed64 bytes) e = refl
part_stands end (Part body) e = entry_stands (end - length body) body e
part_stands end (Fixed32 bytes) e = refl

not_both : (one two : Bool) → one ≡ true → not (one && not two) ≡ true → two ≡ true
not_both true true is fine = refl
not_both true false is fine = fine
not_both false two is fine = absurd (false≢true is)

field_told : (end : ℕ) (field : Field) → field_fault end field ≡ None → field_passes has_entry field ≡ true
field_told end field e = (elim (field.number == 1 || field.number == 2) as (λ b. (field.number == 1 || field.number == 2) ≡ b → not (b && not (passes has_entry field.content)) ≡ true) [
  | true ↦ λ is. rw (part_told end field.content (rw is at e))
  | false ↦ λ is. refl
]) refl

field_stands : (end : ℕ) (field : Field) → field_passes has_entry field ≡ true → field_fault end field ≡ None
field_stands end field e = (elim (field.number == 1 || field.number == 2) as (λ b. (field.number == 1 || field.number == 2) ≡ b → field_fault end field ≡ None) [
  | true ↦ λ is. rw is (part_stands end field.content (not_both true (passes has_entry field.content) refl (rw is at e)))
  | false ↦ λ is. rw is
]) refl

-- a delta without a fault
pub record DeltaFields (fronts : List Placed) : Type 0 where
  pub fields : List Field
  pub read : fields_in fronts ≡ Some fields
  pub entries : all_pass has_entry fields ≡ true

delta_front : (at : ℕ) (front : Front) (rest : List Placed) → delta_fault_in (record { at = at; front = front } ∷ rest) ≡ None → (delta_fault_in rest ≡ None → DeltaFields rest) → DeltaFields (record { at = at; front = front } ∷ rest)
delta_front at (NoKey fault) rest e smaller = some_is_no e
delta_front at (NoContent number wire fault) rest e smaller = some_is_no e
delta_front at (Whole field len) rest e smaller =
    let parts = neither (field_fault (at + len) field) (delta_fault_in rest) e in
    let more = smaller parts.1 in
    record { fields = field ∷ more.fields; read = rw more.read; entries = pass_more has_entry field more.fields (field_told (at + len) field parts.0) more.entries }

pub delta_fields : (fronts : List Placed) → delta_fault_in fronts ≡ None → DeltaFields fronts
delta_fields [] e = record { fields = []; read = refl; entries = refl }
delta_fields (placed ∷ rest) e = delta_front placed.at placed.front rest e (delta_fields rest)

delta_is_fine_front : (at : ℕ) (front : Front) (rest : List Placed) (fields : List Field) → onto_fields front (fields_in rest) ≡ Some fields → all_pass has_entry fields ≡ true →
    ((more : List Field) → fields_in rest ≡ Some more → all_pass has_entry more ≡ true → delta_fault_in rest ≡ None) → delta_fault_in (record { at = at; front = front } ∷ rest) ≡ None
delta_is_fine_front at (NoKey fault) rest fields e entries smaller = none_is_no e
delta_is_fine_front at (NoContent number wire fault) rest fields e entries smaller = none_is_no e
delta_is_fine_front at (Whole field len) rest fields e entries smaller =
    let all = all_fields field rest fields e in
    let parts = pass_less has_entry field all.more (rw all.are at entries) in
    rw (field_stands (at + len) field parts.0) (smaller all.more all.read parts.1)

pub delta_is_fine : (fronts : List Placed) (fields : List Field) → fields_in fronts ≡ Some fields → all_pass has_entry fields ≡ true → delta_fault_in fronts ≡ None
delta_is_fine [] fields e entries = refl
delta_is_fine (placed ∷ rest) fields e entries = delta_is_fine_front placed.at placed.front rest fields e entries (delta_is_fine rest)

all_there_by : (body : List ℕ) (bodies : List (List ℕ)) (found : Option (List Field)) → entry_of body ≡ found → (is_some (entry_of body) && list_all has_entry bodies) ≡ true →
    (list_all has_entry bodies ≡ true → all_some (map entry_of bodies) ≡ Some (map entry_or_none bodies)) → all_some (entry_of body ∷ map entry_of bodies) ≡ Some (entry_or_none body ∷ map entry_or_none bodies)
all_there_by body bodies None e there smaller = absurd (false≢true (rw e at there))
all_there_by body bodies (Some fields) e there smaller = rw (e, smaller (rw e at there))

-- entries that are all there
all_there : (bodies : List (List ℕ)) → list_all has_entry bodies ≡ true → all_some (map entry_of bodies) ≡ Some (map entry_or_none bodies)
all_there [] there = refl
all_there (body ∷ bodies) there = all_there_by body bodies (entry_of body) refl there (all_there bodies)

-- the delta of fields whose entries are all there
pub delta_there : (fields : List Field) → all_pass has_entry fields ≡ true →
    delta_of_fields fields ≡ Some (delta_with fields (map entry_or_none (parts_of 1 fields)) (map entry_or_none (parts_of 2 fields)))
delta_there fields entries =
    let parts = and_parts (list_all has_entry (parts_of 1 fields)) (list_all has_entry (parts_of 2 fields)) entries in
    rw (all_there (parts_of 1 fields) parts.0, all_there (parts_of 2 fields) parts.1)

-- without a fault there is a delta
pub delta_of_fine : (text : List ℕ) (fields : List Field) → fields_in (fronts_from 0 text) ≡ Some fields → all_pass has_entry fields ≡ true →
    delta_of text ≡ Some (delta_with fields (map entry_or_none (parts_of 1 fields)) (map entry_or_none (parts_of 2 fields)))
unfolding delta_of
delta_of_fine text fields read entries = rw read (delta_there fields entries)

rest_there : {P : Type 0} (fields : List Field) (found : Option (List (List Field))) (all : List (List Field)) → option_map (λ rest. fields ∷ rest) found ≡ Some all → ((rest : List (List Field)) → found ≡ Some rest → P) → P
rest_there fields None all e use_rest = none_is_no e
rest_there fields (Some rest) all e use_rest = use_rest rest refl

there_by : (body : List ℕ) (bodies : List (List ℕ)) (all : List (List Field)) (found : Option (List Field)) → entry_of body ≡ found → option_and_then (λ first. option_map (λ rest. first ∷ rest) (all_some (map entry_of bodies))) found ≡ Some all →
    ((rest : List (List Field)) → all_some (map entry_of bodies) ≡ Some rest → list_all has_entry bodies ≡ true) → (is_some (entry_of body) && list_all has_entry bodies) ≡ true
there_by body bodies all None e found smaller = none_is_no found
there_by body bodies all (Some fields) e found smaller = rw e (rest_there fields (all_some (map entry_of bodies)) all found smaller)

-- what is all there has each entry
there : (bodies : List (List ℕ)) (all : List (List Field)) → all_some (map entry_of bodies) ≡ Some all → list_all has_entry bodies ≡ true
there [] all found = refl
there (body ∷ bodies) all found = there_by body bodies all (entry_of body) refl found (there bodies)

tombs_there : (fields : List Field) (delta : Delta) (elements : List (List Field)) (found : Option (List (List Field))) → entries_of 2 fields ≡ found → option_map (λ tombstones. delta_with fields elements tombstones) found ≡ Some delta → list_all has_entry (parts_of 2 fields) ≡ true
tombs_there fields delta elements None e read = none_is_no read
tombs_there fields delta elements (Some all) e read = there (parts_of 2 fields) all e

elements_there : (fields : List Field) (delta : Delta) (found : Option (List (List Field))) → entries_of 1 fields ≡ found →
    option_and_then (λ elements. option_map (λ tombstones. delta_with fields elements tombstones) (entries_of 2 fields)) found ≡ Some delta → all_pass has_entry fields ≡ true
elements_there fields delta None e read = none_is_no read
elements_there fields delta (Some all) e read = rw (there (parts_of 1 fields) all e, tombs_there fields delta all (entries_of 2 fields) refl read)

fine_by : (text : List ℕ) (delta : Delta) (found : Option (List Field)) → fields_of text ≡ found → option_and_then delta_of_fields found ≡ Some delta → delta_fault_in (fronts_from 0 text) ≡ None
fine_by text delta None e read = none_is_no read
fine_by text delta (Some fields) e read = delta_is_fine (fronts_from 0 text) fields e (elements_there fields delta (entries_of 1 fields) refl read)

-- a text with a delta has no fault
pub fine_of_delta : (text : List ℕ) (delta : Delta) → delta_of text ≡ Some delta → delta_fault text ≡ None
unfolding delta_of delta_fault
fine_of_delta text delta read = fine_by text delta (fields_of text) refl read

none_of : (text : List ℕ) (fault : DeltaFault) (found : Option Delta) → delta_of text ≡ found → delta_fault text ≡ Some fault → found ≡ None
none_of text fault None e faulty = refl
none_of text fault (Some delta) e faulty = none_is_no (sym (fine_of_delta text delta e) ∙ faulty)

-- a text with a fault has no delta
pub none_of_fault : (text : List ℕ) (fault : DeltaFault) → delta_fault text ≡ Some fault → delta_of text ≡ None
none_of_fault text fault faulty = none_of text fault (delta_of text) refl faulty
