-- What an entry holds.
use Rattle.std.specs.Prelude.{◌≡◌, ℕ, List, drop, None, unwrap_or}
use Rattle.mc_model.specs.DeltaText.{entry_fault, text_fault, part_of, last_in}
use Rattle.mc_wire.specs.Named.{fronts_at, field_at}
use Rattle.mc_wire.specs.declared.field.Field.{Field as PlacedField}
use Rattle.mc_delta.specs.declared.entry.Entry.{Entry}

-- the entry at an offset of a text that ends with it
pub record EntryAt (text : List ℕ) (from : ℕ) (entry : Entry) : Type 0 where
  pub fine : entry_fault (fronts_at text from) ≡ None
  pub key : entry.key.now ≡ last_in 1 (drop from text)
  pub id : entry.id.now ≡ last_in 2 (drop from text)
  pub value : entry.value.now ≡ last_in 3 (drop from text)

-- an entry after a field at this offset
pub record TakesField (text : List ℕ) (at : ℕ) (field : PlacedField) (old new : Entry) : Type 0 where
  pub fine : text_fault at (field_at text field) ≡ None
  pub key : new.key.now ≡ unwrap_or (part_of 1 (field_at text field)) old.key.now
  pub id : new.id.now ≡ unwrap_or (part_of 2 (field_at text field)) old.id.now
  pub value : new.value.now ≡ unwrap_or (part_of 3 (field_at text field)) old.value.now
