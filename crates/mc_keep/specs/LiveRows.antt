-- What lives of the rows of a key, and the block that holds the key's value.
use Rattle.std.specs.Prelude.{◌≡◌, ℕ, Bool, true, false, not, ◌&&◌, List, [], ◌∷◌, filter, Option, Some, None}
use Rattle.std.specs.Prelude.{if◌then◌else◌}
use Rattle.std.specs.List.{flat_map, list_any}
use Rattle.mc_base.specs.declared.cid.Cid.{Cid}
use Rattle.mc_model.specs.declared.block.Block.{Block}
use Rattle.mc_model.specs.Front.{same_cid}
use Rattle.mc_model.specs.Id.{id_text}
use Rattle.mc_model.specs.Live.{has_tomb, value_row}
use Rattle.mc_model.specs.Rank.{Ranked, same_ranked}
use Rattle.mc_model.specs.Who.{Placed}
use Rattle.mc_keep.specs.declared.rows.ElementRow.{ElementRow}
use Rattle.mc_keep.specs.Tables.{element_rows_of}

abbrev pub ranked_of : ElementRow → Ranked
ranked_of row = (row.priority, row.value)

-- the values of rows of a key whose blocks have no such tombstone, with their priorities
abbrev pub live_row : (List ℕ → Bool) → ElementRow → List Ranked
live_row hidden row = if hidden (id_text row.cid.0) then [] else ranked_of row ∷ []

abbrev pub live_rows : (List ℕ → Bool) → List ElementRow → List Ranked
live_rows hidden rows = flat_map (live_row hidden) rows

-- the same with their blocks
abbrev pub placed_of : ElementRow → Placed
placed_of row = (ranked_of row, row.cid)

abbrev pub place_row : (List ℕ → Bool) → ElementRow → List Placed
place_row hidden row = if hidden (id_text row.cid.0) then [] else placed_of row ∷ []

abbrev pub place_rows : (List ℕ → Bool) → List ElementRow → List Placed
place_rows hidden rows = flat_map (place_row hidden) rows

-- whether no tombstone of the blocks hides the row of the key
abbrev pub is_shown : List Block → List ℕ → ElementRow → Bool
is_shown blocks key row = not (has_tomb blocks key (id_text row.cid.0))

-- the element rows of a key that none hides
abbrev pub live_element_rows : List Block → List ℕ → List ElementRow
live_element_rows blocks key = filter (is_shown blocks key) (element_rows_of blocks key)

-- whether this is a row of the block, with the value and the priority
abbrev pub is_row_of : Cid → Ranked → ElementRow → Bool
is_row_of cid ranked row = same_cid cid row.cid && same_ranked ranked (ranked_of row)
