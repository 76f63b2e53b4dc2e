-- When tables of plain rows are sound, and the first place where they are not.
use Rattle.std.specs.Prelude.{ℕ, ◌+◌, nat_eq, Bool, true, not, ◌&&◌, ◌||◌, List, [], ◌∷◌, ◌++◌, length}
use Rattle.std.specs.Prelude.{Option, Some, None, if◌then◌else◌}
use Rattle.std.specs.List.{list_any}
use Rattle.std.specs.Ordering.{is_lt, nat_cmp}
use Rattle.std.specs.Cmp.Lexicographic.{slice_cmp}
use Rattle.mc_base.specs.declared.cid.Cid.{Cid}
use Rattle.mc_model.specs.declared.block.Block.{Block}
use Rattle.mc_model.specs.Front.{is_among, is_processed, links}
use Rattle.mc_model.specs.Offer.{is_good}
use Rattle.mc_raw.specs.declared.raw.Row.{Row}
use Rattle.mc_raw.specs.Raw.{Tables, has_row}
use Rattle.mc_raw.specs.RowTables.{element_table, tomb_table, value_table, winner_table, head_table, link_table}
use Rattle.mc_audit.specs.declared.verdict.Place.{Place}
use Rattle.mc_audit.specs.declared.verdict.Verdict.{Verdict}
use Rattle.mc_audit.specs.declared.verdict.Verdict.TheVariants.{Sound, Differs}
use Rattle.mc_audit.specs.Rows.{same_row, cid_in, blocks_of}

-- Table 1: each row is good under its digest, and above the one before.

abbrev pub is_above : Option Cid → Cid → Bool
is_above None cid = true
is_above (Some last) cid = is_lt (slice_cmp nat_cmp last.0 cid.0)

abbrev pub is_block : Option Cid → Row → Bool
is_block last row = is_above last (cid_in row) && is_good (cid_in row) row.b

-- the first row that isn't so, of rows that stand from a place on, after this one
abbrev pub block_break : ℕ → Option Cid → List Row → Option ℕ
block_break at last [] = None
block_break at last (row ∷ rows) =
    if is_block last row then block_break (at + 1) (Some (cid_in row)) rows else Some at

-- Table 2: the positions count up from 0; each digest stands in table 1, and not before.

abbrev pub is_place : (Cid → Bool) → ℕ → List Cid → Row → Bool
is_place stored at seen row = nat_eq row.n at && (stored (cid_in row) && not (is_among seen (cid_in row)))

abbrev pub place_break : (Cid → Bool) → ℕ → List Cid → List Row → Option ℕ
place_break stored at seen [] = None
place_break stored at seen (row ∷ rows) =
    if is_place stored at seen row then place_break stored (at + 1) (seen ++ cid_in row ∷ []) rows else Some at

-- Tables 3 to 8: the rows are these. A missing row counts at the place past the end.

abbrev pub rows_break : ℕ → List Row → List Row → Option ℕ
rows_break at [] [] = None
rows_break at [] (row ∷ rows) = Some at
rows_break at (row ∷ rows) [] = Some at
rows_break at (row ∷ rows) (other ∷ others) =
    if same_row row other then rows_break (at + 1) rows others else Some at

-- Table 9: one row, 0 or 1, and 1 where there is a gap.

abbrev pub has_gap : List Block → Bool
has_gap blocks = list_any (λ (cid : Cid). not (is_processed blocks cid)) (links blocks)

abbrev pub is_mark : Bool → Row → Bool
is_mark gap row = nat_eq row.n 1 || (nat_eq row.n 0 && not gap)

abbrev pub mark_break : Bool → List Row → Option ℕ
mark_break gap [] = Some 0
mark_break gap (row ∷ []) = if is_mark gap row then None else Some 0
mark_break gap (row ∷ next ∷ rows) = if is_mark gap row then Some 1 else Some 0

-- The first place: the least table, and in it the least index.

abbrev pub in_table : ℕ → Option ℕ → Option Place
in_table table None = None
in_table table (Some index) = Some (record { table = table; index = index })

abbrev pub or_then : Option Place → Option Place → Option Place
or_then None later = later
or_then (Some place) later = Some place

-- of tables 3 to 9, by the blocks
abbrev pub line_break : Tables → List Block → Option Place
line_break tables blocks =
    or_then (in_table 3 (rows_break 0 (tables 3) (element_table blocks)))
    (in_table 4 (rows_break 0 (tables 4) (tomb_table blocks)))

abbrev pub value_break : Tables → List Block → Option Place
value_break tables blocks =
    or_then (in_table 5 (rows_break 0 (tables 5) (value_table blocks)))
    (in_table 6 (rows_break 0 (tables 6) (winner_table blocks)))

abbrev pub front_break : Tables → List Block → Option Place
front_break tables blocks =
    or_then (in_table 7 (rows_break 0 (tables 7) (head_table blocks)))
    (or_then (in_table 8 (rows_break 0 (tables 8) (link_table blocks)))
    (in_table 9 (mark_break (has_gap blocks) (tables 9))))

abbrev pub later_break : Tables → List Block → Option Place
later_break tables blocks =
    or_then (line_break tables blocks) (or_then (value_break tables blocks) (front_break tables blocks))

abbrev pub first_break : Tables → Option Place
first_break tables =
    or_then (in_table 1 (block_break 0 None (tables 1)))
    (or_then (in_table 2 (place_break (has_row (tables 1)) 0 [] (tables 2))) (later_break tables (blocks_of tables)))

abbrev pub verdict_by : Tables → Option Place → Verdict
verdict_by tables None = Sound (length (tables 2)) (length (tables 1))
verdict_by tables (Some place) = Differs place.table place.index

-- the verdict
abbrev pub verdict_of : Tables → Verdict
verdict_of tables = verdict_by tables (first_break tables)
