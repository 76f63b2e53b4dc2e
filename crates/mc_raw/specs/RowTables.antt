-- The tables that the definitions give for processed blocks, as lists of plain rows.
use Rattle.std.specs.Prelude.{ℕ, ◌+◌, ◌==◌, Bool, not, List, [], ◌∷◌, map, filter, Option, Some, None}
use Rattle.std.specs.Prelude.{if◌then◌else◌}
use Rattle.std.specs.List.{flat_map}
use Rattle.mc_base.specs.declared.cid.Cid.{Cid}
use Rattle.mc_model.specs.declared.block.Block.{Block}
use Rattle.mc_model.specs.declared.block.Stored.{Stored}
use Rattle.mc_model.specs.declared.layout.Layout.{Layout}
use Rattle.mc_model.specs.declared.layout.Layout.TheVariants.{One, Two}
use Rattle.mc_model.specs.declared.delta.Element.{Element}
use Rattle.mc_model.specs.declared.delta.Tomb.{Tomb}
use Rattle.mc_model.specs.Answers.{valued_keys}
use Rattle.mc_model.specs.Ascending.{ascending}
use Rattle.mc_model.specs.Front.{is_linked, links}
use Rattle.mc_model.specs.Kept.{Kept, processed}
use Rattle.mc_model.specs.Layouts.{covers}
use Rattle.mc_model.specs.Live.{value_row}
use Rattle.mc_model.specs.Rank.{Ranked}
use Rattle.mc_model.specs.Who.{who}
use Rattle.mc_raw.specs.declared.raw.Row.{Row}
use Rattle.mc_raw.specs.Raw.{Tables}
use Rattle.mc_raw.specs.RowOrder.{row_cmp}

-- a row of each table
abbrev pub block_line : Stored → Row
block_line stored = record { a = stored.cid.0; b = stored.bytes; c = []; n = 0 }

abbrev pub place_line : ℕ → Cid → Row
place_line place cid = record { a = cid.0; b = []; c = []; n = place }

abbrev pub element_line : Block → Element → Row
element_line block element =
    record { a = element.key; b = block.cid.0; c = element.value; n = block.delta.priority }

abbrev pub tomb_line : Tomb → Row
tomb_line tomb = record { a = tomb.key; b = tomb.id; c = []; n = 0 }

abbrev pub value_line : List ℕ → Option Ranked → Row
value_line key None = record { a = key; b = []; c = []; n = 0 }
value_line key (Some ranked) = record { a = key; b = []; c = ranked.1; n = ranked.0 }

abbrev pub winner_line : List ℕ → Option Cid → Row
winner_line key None = record { a = key; b = []; c = []; n = 0 }
winner_line key (Some cid) = record { a = key; b = cid.0; c = []; n = 0 }

abbrev pub head_line : Block → Row
head_line block = record { a = block.cid.0; b = []; c = []; n = block.delta.priority }

abbrev pub link_line : Cid → Row
link_line cid = record { a = cid.0; b = []; c = []; n = 0 }

abbrev pub meta_line : ℕ → Row
meta_line n = record { a = []; b = []; c = []; n = n }

-- of a layout that isn't Two the mark isn't told
abbrev pub mark_line : Layout → Bool → Row
mark_line (One upto) mark = meta_line 2
mark_line Two mark = meta_line (if mark then 1 else 0)

-- the rows that the blocks have, block by block
abbrev pub element_lines : List Block → List Row
element_lines blocks = flat_map (λ (block : Block). map (element_line block) block.delta.elements) blocks

abbrev pub tomb_lines : List Block → List Row
tomb_lines blocks = flat_map (λ (block : Block). map tomb_line block.delta.tombstones) blocks

abbrev pub head_lines : List Block → List Row
head_lines blocks = map head_line (filter (λ (block : Block). not (is_linked blocks block.cid)) blocks)

-- the tables, each in its order
abbrev pub element_table : List Block → List Row
element_table blocks = ascending row_cmp (element_lines blocks)

abbrev pub tomb_table : List Block → List Row
tomb_table blocks = ascending row_cmp (tomb_lines blocks)

abbrev pub value_table : List Block → List Row
value_table blocks = map (λ key. value_line key (value_row blocks key)) (valued_keys blocks)

abbrev pub winner_table : List Block → List Row
winner_table blocks = map (λ key. winner_line key (who blocks key)) (valued_keys blocks)

-- of a layout, those of the keys that have a winner row by it
abbrev pub winner_table_by : Layout → List Block → List Row
winner_table_by layout blocks =
    map (λ key. winner_line key (who blocks key)) (filter (covers layout) (valued_keys blocks))

abbrev pub head_table : List Block → List Row
head_table blocks = ascending row_cmp (head_lines blocks)

abbrev pub link_table : List Block → List Row
link_table blocks = ascending row_cmp (map link_line (links blocks))

abbrev pub block_table : List Stored → List Row
block_table graph = ascending row_cmp (map block_line graph)

abbrev pub place_table : ℕ → List Cid → List Row
place_table place [] = []
place_table place (cid ∷ cids) = place_line place cid ∷ place_table (place + 1) cids

-- the tables of a keeper that tells, by its layout and by their numbers
abbrev pub tables_of : Layout → Kept → Tables
tables_of layout kept table =
    if table == 1 then block_table kept.graph
    else (if table == 2 then place_table 0 kept.order
    else (if table == 3 then element_table (processed kept)
    else (if table == 4 then tomb_table (processed kept)
    else (if table == 5 then value_table (processed kept)
    else (if table == 6 then winner_table_by layout (processed kept)
    else (if table == 7 then head_table (processed kept)
    else (if table == 8 then link_table (processed kept)
    else (if table == 9 then mark_line layout kept.mark ∷ [] else []))))))))
