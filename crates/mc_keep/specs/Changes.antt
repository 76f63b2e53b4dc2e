-- What the changes of a commit come to.
use Rattle.std.specs.Prelude.{ℕ, ◌+◌, ◌&&◌, Bool, true, false, ◌∷◌, List, [], length, map, fold, Option, None, Some, unwrap_or, ◌++◌}
use Rattle.std.specs.Prelude.{if◌then◌else◌}
use Rattle.std.specs.List.{list_any}
use Rattle.std.specs.Option.{option_map}
use Rattle.std.specs.Str.{bytes_eq}
use Rattle.mc_base.specs.declared.cid.Cid.{Cid}
use Rattle.mc_model.specs.declared.block.Block.{Block}
use Rattle.mc_model.specs.Rank.{Ranked}
use Rattle.mc_model.specs.Front.{Head, same_cid}
use Rattle.mc_model.specs.Kept.{Kept, blocks_in}
use Rattle.mc_keep.specs.declared.rows.TombRow.{TombRow}
use Rattle.mc_keep.specs.declared.rows.RankedValue.{RankedValue}
use Rattle.mc_keep.specs.declared.rows.HeadRow.{HeadRow}
use Rattle.mc_model.specs.declared.layout.Layout.{Layout}
use Rattle.mc_model.specs.declared.layout.Layout.TheVariants.{One, Two}
use Rattle.mc_keep.specs.declared.changes.ValueChange.{ValueChange}
use Rattle.mc_keep.specs.declared.changes.WinnerChange.{WinnerChange}
use Rattle.mc_keep.specs.declared.changes.Changes.{Changes}

abbrev pub no_changes : Changes
no_changes =
    record {
      store = [];
      marks = [];
      links = [];
      elements = [];
      tombs = [];
      values = [];
      winners = [];
      upto = None;
      two = false;
      heads_in = [];
      heads_out = [];
      mark = None;
    }

-- the rows that need room
abbrev pub row_count : Changes → ℕ
row_count changes =
    length changes.store + length changes.marks + length changes.links + length changes.elements + length changes.tombs
    + length changes.values + length changes.winners + length changes.heads_in

-- what the changes make of a keeper
abbrev pub changed : Kept → Changes → Kept
changed kept changes =
    record {
      graph = kept.graph ++ changes.store;
      order = kept.order ++ changes.marks;
      mark = unwrap_or changes.mark kept.mark;
    }

-- the blocks that the changes process
abbrev pub newly_processed : Kept → Changes → List Block
newly_processed kept changes = blocks_in (kept.graph ++ changes.store) changes.marks

abbrev pub ranked_value : Option RankedValue → Option Ranked
ranked_value value = option_map (λ (v : RankedValue). (v.priority, v.value)) value

-- whether this is the row of the key with the id
abbrev pub is_tomb_row : List ℕ → List ℕ → TombRow → Bool
is_tomb_row key id row = bytes_eq row.key key && bytes_eq row.id id

abbrev pub has_tomb_row : List TombRow → List ℕ → List ℕ → Bool
has_tomb_row rows key id = list_any (is_tomb_row key id) rows

-- the value of a key after one change, and after changes in turn
abbrev pub value_after : List ℕ → Option Ranked → ValueChange → Option Ranked
value_after key value change = if bytes_eq change.key key then ranked_value change.value else value

abbrev pub values_after : List ℕ → Option Ranked → List ValueChange → Option Ranked
values_after key value changes = fold (value_after key) value changes

-- the winner of a key after one change, and after changes in turn
abbrev pub winner_after : List ℕ → Option Cid → WinnerChange → Option Cid
winner_after key winner change = if bytes_eq change.key key then change.cid else winner

abbrev pub winners_after : List ℕ → Option Cid → List WinnerChange → Option Cid
winners_after key winner changes = fold (winner_after key) winner changes

abbrev pub has_winner_of : List WinnerChange → List ℕ → Bool
has_winner_of changes key = list_any (λ (change : WinnerChange). bytes_eq change.key key) changes

-- the layout after changes
abbrev pub laid_to : Bool → Option (List ℕ) → Layout → Layout
laid_to two upto Two = Two
laid_to true upto (One old) = Two
laid_to false None (One old) = One old
laid_to false (Some upto) (One old) = One (Some upto)

abbrev pub laid : Layout → Changes → Layout
laid layout changes = laid_to changes.two changes.upto layout

abbrev pub head_in_row : HeadRow → Head
head_in_row row = (row.cid, row.height)

abbrev pub heads_in_rows : List HeadRow → List Head
heads_in_rows rows = map head_in_row rows

-- the height of a head after one that is none any more, after a new one, and after all of them in turn
abbrev pub head_without : Cid → Option ℕ → Cid → Option ℕ
head_without cid height out = if same_cid cid out then None else height

abbrev pub head_with : Cid → Option ℕ → HeadRow → Option ℕ
head_with cid height row = if same_cid cid row.cid then Some row.height else height

abbrev pub head_after : Cid → Option ℕ → List Cid → List HeadRow → Option ℕ
head_after cid height out new = fold (head_with cid) (fold (head_without cid) height out) new
