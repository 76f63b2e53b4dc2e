-- An entry that is read field by field.
use Rattle.std.proofs.Common.{◌≡◌, ℕ, ◌≤◌, List, [], length, drop, sym, ◌∙◌, Some, None, arith}
use Rattle.mc_base.specs.Wire.{Field}
use Rattle.mc_base.specs.WireRead.{fields_in, fields_of}
use Rattle.mc_base.specs.NodeRead.{parts_in}
use Rattle.mc_wire.proofs.FieldFacts.{fields_are_read, fields_found}
use Rattle.mc_delta.proofs.EntryLaw.{entry_fields}
use Rattle.mc_delta.proofs.FrontFields.{parts_of_fields}
use Rattle.mc_delta.proofs.ReadLaw.{last_of_fields}
use Rattle.mc_delta.specs.Entries.{EntryAt}
use Rattle.mc_model.specs.DeltaText.{entry_fault, last_or, last_part, last_in}
use Rattle.mc_wire.specs.Named.{fronts_at}
use Rattle.mc_delta.specs.declared.entry.Entry.{Entry}

-- the fields up to an offset are fine, and this is what they hold
pub record IsReading (text : List ℕ) (from at : ℕ) (entry : Entry) : Type 0 where
  pub within : at ≤ length text
  pub fault : entry_fault (fronts_at text from) ≡ entry_fault (fronts_at text at)
  pub key : last_or [] (parts_in 1 (fronts_at text from)) ≡ last_or entry.key.now (parts_in 1 (fronts_at text at))
  pub id : last_or [] (parts_in 2 (fronts_at text from)) ≡ last_or entry.id.now (parts_in 2 (fronts_at text at))
  pub value : last_or [] (parts_in 3 (fronts_at text from)) ≡ last_or entry.value.now (parts_in 3 (fronts_at text at))

-- the fields that are read from an offset on are those of the text from there on
pub fields_there : (from : ℕ) (text : List ℕ) (fields : List Field) → fields_in (fronts_at text from) ≡ Some fields → fields_of (drop from text) ≡ Some fields
fields_there from text fields read = fields_are_read 0 (drop from text) fields (fields_found (length (drop from text)) from (drop from text) fields (omega arith) read)

last_read : (number from at : ℕ) (text held : List ℕ) (fields : List Field) → fronts_at text at ≡ [] → fields_in (fronts_at text from) ≡ Some fields →
    last_or [] (parts_in number (fronts_at text from)) ≡ last_or held (parts_in number (fronts_at text at)) → held ≡ last_in number (drop from text)
last_read number from at text held fields ends read e =
    let last : held ≡ last_part number fields = sym (rw (parts_of_fields number (fronts_at text from) fields read, ends) at e) in
    last ∙ last_of_fields number (drop from text) fields (fields_there from text fields read)

-- where no field is left, this is the entry
pub entry_done : (text : List ℕ) (from at : ℕ) (entry : Entry) → IsReading text from at entry → fronts_at text at ≡ [] → EntryAt text from entry
entry_done text from at entry reading ends =
    let fine : entry_fault (fronts_at text from) ≡ None = rw ends at reading.fault in
    let fields = entry_fields (fronts_at text from) fine in
    record {
      fine = fine;
      key = last_read 1 from at text entry.key.now fields.fields ends fields.read reading.key;
      id = last_read 2 from at text entry.id.now fields.fields ends fields.read reading.id;
      value = last_read 3 from at text entry.value.now fields.fields ends fields.read reading.value;
    }
