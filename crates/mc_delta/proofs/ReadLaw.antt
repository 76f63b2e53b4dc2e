-- The one reading of a delta: its delta, or its first fault.
use Rattle.std.proofs.Common.{◌≡◌, ℕ, List, [], ◌∷◌, map, true, false, refl, ap, sym, ◌∙◌, Option, Some, None, Result, Ok, Err}
use Rattle.std.proofs.lemmas.Bool.{false≢true, and_parts}
use Rattle.std.specs.Bool.{if◌then◌else◌}
use Rattle.std.specs.List.{list_all, filter_map}
use Rattle.std.specs.Option.{option_and_then}
use Rattle.std.specs.Prelude.{◌↔◌, is_some}
use Rattle.std.specs.Result.{result_ok, result_err}
use Rattle.mc_base.specs.Wire.{Field}
use Rattle.mc_base.specs.WireRead.{Front, NoKey, NoContent, Whole, Placed, fields_in, fields_of, onto_fields, fronts_from}
use Rattle.mc_model.specs.DeltaText.{DeltaFault, delta_of, delta_fault, delta_read, delta_in, delta_unless, element_in, tomb_in, last_in, last_or, last_part, varint_of, varints_in, element_of, tomb_of, entry_of, parts_of}
use Rattle.mc_model.specs.declared.delta.Delta.{Delta}
use Rattle.mc_wire.proofs.AllFields.{all_fields, none_is_no, nothing_is}
use Rattle.mc_delta.proofs.DeltaLaw.{has_entry, entry_or_none, delta_fields, delta_of_fine, fine_of_delta}
use Rattle.mc_delta.proofs.EntryLaw.{are_texts}
use Rattle.mc_delta.proofs.FrontFields.{parts_of_fields}

varints_of_front : (at : ℕ) (front : Front) (rest : List Placed) (fields : List Field) → onto_fields front (fields_in rest) ≡ Some fields →
    ((more : List Field) → fields_in rest ≡ Some more → varints_in 3 rest ≡ filter_map (varint_of 3) more) → varints_in 3 (record { at = at; front = front } ∷ rest) ≡ filter_map (varint_of 3) fields
varints_of_front at (NoKey fault) rest fields e smaller = none_is_no e
varints_of_front at (NoContent number wire fault) rest fields e smaller = none_is_no e
varints_of_front at (Whole field len) rest fields e smaller =
    let all = all_fields field rest fields e in
    rw (all.are, smaller all.more all.read)

varints_of_fields : (fronts : List Placed) (fields : List Field) → fields_in fronts ≡ Some fields → varints_in 3 fronts ≡ filter_map (varint_of 3) fields
varints_of_fields [] fields e = rw (nothing_is fields e)
varints_of_fields (placed ∷ rest) fields e = varints_of_front placed.at placed.front rest fields e (varints_of_fields rest)

-- what fields hold last is what their entry says
pub last_of_fields : (number : ℕ) (body : List ℕ) (fields : List Field) → fields_of body ≡ Some fields → last_part number fields ≡ last_in number body
last_of_fields number body fields read = ap (last_or []) (sym (parts_of_fields number (fronts_from 0 body) fields read))

last_by : (number : ℕ) (body : List ℕ) (found : Option (List Field)) → option_and_then (λ fields. if are_texts fields then Some fields else None) found ≡ entry_of body → fields_of body ≡ found → has_entry body ≡ true → last_part number (entry_or_none body) ≡ last_in number body
last_by number body None same read fine = absurd (false≢true (rw (← same) at fine))
last_by number body (Some fields) same read fine = (elim (are_texts fields) as (λ b. are_texts fields ≡ b → last_part number (entry_or_none body) ≡ last_in number body) [
  | true ↦ λ texts. rw (← same, texts) (last_of_fields number body fields read)
  | false ↦ λ texts. absurd (false≢true (rw (← same, texts) at fine))
]) refl

last_said : (number : ℕ) (body : List ℕ) → has_entry body ≡ true → last_part number (entry_or_none body) ≡ last_in number body
last_said number body fine = last_by number body (fields_of body) refl refl fine

elements_said : (bodies : List (List ℕ)) → list_all has_entry bodies ≡ true → map element_of (map entry_or_none bodies) ≡ map element_in bodies
elements_said [] all = refl
elements_said (body ∷ bodies) all =
    let parts = and_parts (has_entry body) (list_all has_entry bodies) all in
    λ i. record { key = last_said 1 body parts.0 i; value = last_said 3 body parts.0 i } ∷ elements_said bodies parts.1 i

tombs_said : (bodies : List (List ℕ)) → list_all has_entry bodies ≡ true → map tomb_of (map entry_or_none bodies) ≡ map tomb_in bodies
tombs_said [] all = refl
tombs_said (body ∷ bodies) all =
    let parts = and_parts (has_entry body) (list_all has_entry bodies) all in
    λ i. record { key = last_said 1 body parts.0 i; id = last_said 2 body parts.0 i } ∷ tombs_said bodies parts.1 i

-- a text without a fault is the delta that its fields say
pub read_fine : (text : List ℕ) → delta_fault text ≡ None → delta_of text ≡ Some (delta_in (fronts_from 0 text))
unfolding delta_fault
read_fine text fine =
    let fronts = fronts_from 0 text in
    let all = delta_fields fronts fine in
    let parts = and_parts (list_all has_entry (parts_of 1 all.fields)) (list_all has_entry (parts_of 2 all.fields)) all.entries in
    delta_of_fine text all.fields all.read all.entries
    ∙ rw (elements_said (parts_of 1 all.fields) parts.0, tombs_said (parts_of 2 all.fields) parts.1, parts_of_fields 1 fronts all.fields all.read, parts_of_fields 2 fronts all.fields all.read, varints_of_fields fronts all.fields all.read) refl

read_told_by : (text : List ℕ) (delta : Delta) (found : Option DeltaFault) → delta_fault text ≡ found → delta_unless found (delta_in (fronts_from 0 text)) ≡ Ok delta → delta_of text ≡ Some delta
read_told_by text delta None e read = read_fine text e ∙ ap result_ok read
read_told_by text delta (Some fault) e read = none_is_no (ap result_ok read)

-- what is read is the delta of the text
pub read_told : (text : List ℕ) (delta : Delta) → delta_read text ≡ Ok delta → delta_of text ≡ Some delta
unfolding delta_read
read_told text delta read = read_told_by text delta (delta_fault text) refl read

ok_of : {A E : Type 0} (first second : A) → ◌≡◌ {A = Option A} (Some first) (Some second) → ◌≡◌ {A = Result A E} (Ok first) (Ok second)
ok_of first second e = let same : first ≡ second = cc in rw same

pub told_read : (text : List ℕ) (delta : Delta) → delta_of text ≡ Some delta → delta_read text ≡ Ok delta
unfolding delta_read
told_read text delta told =
    let fine = fine_of_delta text delta told in
    rw fine (ok_of (delta_in (fronts_from 0 text)) delta (sym (read_fine text fine) ∙ told))

fault_told_by : (text : List ℕ) (fault : DeltaFault) (found : Option DeltaFault) → delta_unless found (delta_in (fronts_from 0 text)) ≡ Err fault → found ≡ Some fault
fault_told_by text fault None read = none_is_no (ap result_err read)
fault_told_by text fault (Some first) read = ap result_err read

fault_told : (text : List ℕ) (fault : DeltaFault) → delta_read text ≡ Err fault → delta_fault text ≡ Some fault
unfolding delta_read
fault_told text fault read = fault_told_by text fault (delta_fault text) read

told_fault : (text : List ℕ) (fault : DeltaFault) → delta_fault text ≡ Some fault → delta_read text ≡ Err fault
unfolding delta_read
told_fault text fault faulty = rw faulty

fine_told_by : (text : List ℕ) (found : Option Delta) → delta_of text ≡ found → is_some found ≡ true → delta_fault text ≡ None
fine_told_by text None e some = absurd (false≢true some)
fine_told_by text (Some delta) e some = fine_of_delta text delta e

pub read_is : (text : List ℕ) (delta : Delta) → (delta_read text ≡ Ok delta) ↔ (delta_of text ≡ Some delta)
read_is text delta = (read_told text delta, told_read text delta)

pub fault_is : (text : List ℕ) (fault : DeltaFault) → (delta_read text ≡ Err fault) ↔ (delta_fault text ≡ Some fault)
fault_is text fault = (fault_told text fault, told_fault text fault)

pub fine_is : (text : List ℕ) → (delta_fault text ≡ None) ↔ (is_some (delta_of text) ≡ true)
fine_is text = ((λ fine. ap is_some (read_fine text fine)), fine_told_by text (delta_of text) refl)
