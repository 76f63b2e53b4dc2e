-- The block of the row that a key's value names, and which block that is after changes.
use Rattle.std.specs.Prelude.{ℕ, Bool, true, false, List, find, Option, Some, None, if◌then◌else◌}
use Rattle.std.specs.List.{list_any}
use Rattle.std.specs.Option.{option_map, option_and_then}
use Rattle.std.specs.Str.{bytes_eq}
use Rattle.mc_base.specs.declared.cid.Cid.{Cid}
use Rattle.mc_model.specs.Rank.{Ranked}
use Rattle.mc_keep.specs.declared.rows.ElementRow.{ElementRow}
use Rattle.mc_keep.specs.declared.changes.ValueChange.{ValueChange}
use Rattle.mc_keep.specs.declared.changes.WinnerChange.{WinnerChange}
use Rattle.mc_keep.specs.LiveRows.{is_row_of}
use Rattle.mc_tables.specs.declared.elements.Node.{Node}
use Rattle.mc_tables.specs.Chains.{row_at}

-- the block of the row that the key's value names
abbrev pub named_in : List Cid → List Node → (List ℕ → Option ℕ) → List ℕ → Option Cid
named_in cids nodes values key =
    option_map (λ (row : ElementRow). row.cid) (option_and_then (row_at cids nodes key) (values key))

-- the first row of the block with the value and the priority
abbrev pub row_with_cid : Cid → Ranked → List ElementRow → Option ElementRow
row_with_cid cid ranked rows = find (is_row_of cid ranked) rows

-- whether the block that a change names has a row with the key's value
abbrev pub has_row_of : Option Cid → Option Ranked → List ElementRow → Bool
has_row_of None ranked rows = true
has_row_of (Some cid) None rows = false
has_row_of (Some cid) (Some ranked) rows = list_any (is_row_of cid ranked) rows

abbrev pub is_met : (List ℕ → Option Ranked) → (List ℕ → List ElementRow) → WinnerChange → Bool
is_met values rows change = has_row_of change.cid (values change.key) (rows change.key)

-- the named block after one change, and after changes in turn
abbrev pub named_by : Option Cid → Option Cid → Option Cid
named_by None named = named
named_by (Some cid) named = Some cid

abbrev pub named_after : List ℕ → Option Cid → WinnerChange → Option Cid
named_after key named change = if bytes_eq change.key key then named_by change.cid named else named

-- whether a change of the value speaks of a key
abbrev pub has_value_of : List ValueChange → List ℕ → Bool
has_value_of changes key = list_any (λ (change : ValueChange). bytes_eq change.key key) changes
