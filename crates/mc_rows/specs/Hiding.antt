-- What lives of the rows of a key.
use Rattle.std.specs.Prelude.{◌≡◌, ℕ, Bool, false, not, ◌||◌, List, ◌++◌, filter, Option, Some, None}
use Rattle.std.specs.List.{list_any}
use Rattle.std.specs.Str.{bytes_eq}
use Rattle.mc_model.specs.declared.block.Block.{Block}
use Rattle.mc_model.specs.Id.{id_text}
use Rattle.mc_model.specs.Live.{has_tomb}
use Rattle.mc_model.specs.Who.{Placed, topmost, top_row}
use Rattle.mc_keep.specs.declared.rows.ElementRow.{ElementRow}
use Rattle.mc_keep.specs.declared.rows.TombRow.{TombRow}
use Rattle.mc_keep.specs.Changes.{has_tomb_row}
use Rattle.mc_keep.specs.LiveRows.{place_rows}
use Rattle.mc_keep.specs.Tables.{element_rows_of}

-- whether a tombstone is in no block
abbrev pub is_unknown : List Block → TombRow → Bool
is_unknown blocks row = not (has_tomb blocks row.key row.id)

-- whether the new tombstones, or the blocks, have the tombstone
abbrev pub hides : List Block → List TombRow → List ℕ → List ℕ → Bool
hides blocks tombs key id = has_tomb_row tombs key id || has_tomb blocks key id

-- the rows of a key
abbrev pub rows_with : List ElementRow → List ℕ → List ElementRow
rows_with rows key = filter (λ (row : ElementRow). bytes_eq row.key key) rows

-- whether a row has the key
abbrev pub has_element_of : List ElementRow → List ℕ → Bool
has_element_of rows key = list_any (λ (row : ElementRow). bytes_eq row.key key) rows

abbrev pub has_tomb_of : List TombRow → List ℕ → Bool
has_tomb_of rows key = list_any (λ (row : TombRow). bytes_eq row.key key) rows

-- what counts of a key over the blocks, these new rows of the key, and new tombstones
abbrev pub row_from : List Block → List ElementRow → List TombRow → List ℕ → Option Placed
row_from blocks run tombs key = topmost (place_rows (hides blocks tombs key) (element_rows_of blocks key ++ run))

-- the same over all new rows
abbrev pub new_row : List Block → List ElementRow → List TombRow → List ℕ → Option Placed
new_row blocks elements tombs key = row_from blocks (rows_with elements key) tombs key

-- what counts of a key is still what counts of its old rows
abbrev pub Stands : List Block → List TombRow → List ℕ → Type 0
Stands blocks tombs key =
    topmost (place_rows (hides blocks tombs key) (element_rows_of blocks key)) ≡ top_row blocks key

-- whether a new tombstone hides the block that gives the key its value
abbrev pub is_top_hidden : List TombRow → List ℕ → Option Placed → Bool
is_top_hidden tombs key None = false
is_top_hidden tombs key (Some placed) = has_tomb_row tombs key (id_text placed.1.0)
