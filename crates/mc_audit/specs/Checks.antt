-- What each pass over the tables tells.
use Rattle.std.specs.Prelude.{◌≡◌, ℕ, Bool, false, not, List, [], length, map, filter, Option, Some, None}
use Rattle.mc_base.specs.declared.cid.Cid.{Cid}
use Rattle.mc_model.specs.declared.block.Block.{Block}
use Rattle.mc_model.specs.Front.{is_among, is_processed}
use Rattle.mc_model.specs.Offer.{block_of}
use Rattle.mc_raw.specs.declared.raw.Row.{Row}
use Rattle.mc_keep.specs.declared.rows.HeadRow.{HeadRow}
use Rattle.mc_raw.specs.Raw.{Tables, has_row}
use Rattle.mc_audit.specs.declared.verdict.Place.{Place}
use Rattle.mc_audit.specs.declared.verdict.Verdict.{Verdict}
use Rattle.mc_audit.specs.declared.verdict.Verdict.TheVariants.{Sound, Differs}
use Rattle.mc_audit.specs.declared.blocks.Blocks.{Blocks}
use Rattle.mc_audit.specs.declared.blocks.Checked.{Checked}
use Rattle.mc_audit.specs.declared.blocks.Checked.TheVariants.{Broken, Whole}
use Rattle.mc_audit.specs.declared.places.Placed.{Placed}
use Rattle.mc_audit.specs.declared.places.Placed.TheVariants.{Broken as Misplaced, Whole as InPlace}
use Rattle.mc_audit.specs.Found.{Gathers}
use Rattle.mc_audit.specs.Rows.{same_row, cid_in}
use Rattle.mc_audit.specs.Sound.{is_mark, block_break, place_break}

-- whether this is the row
abbrev pub is_row_at : Row → Option Row → Bool
is_row_at row None = false
is_row_at row (Some other) = same_row other row

-- whether this is a right mark
abbrev pub mark_found : Bool → Option Row → Bool
mark_found gap None = false
mark_found gap (Some row) = is_mark gap row

-- identifiers are those of the rows; all identifiers have 32 bytes
abbrev pub AreCids : List Cid → List Row → Type 0
AreCids cids rows = (cid : Cid) → length cid.0 ≡ 32 → is_among cids cid ≡ has_row rows cid

-- the blocks of those rows whose identifiers are marked
abbrev pub block_in_row : Row → Block
block_in_row row = block_of (cid_in row) row.b

abbrev pub marked_blocks : List Cid → List Row → List Block
marked_blocks marked rows = map block_in_row (filter (λ (row : Row). is_among marked (cid_in row)) rows)

-- what the rows of table 1 so far give
pub record AreTaken (marked : List Cid) (rows : List Row) (blocks : Blocks) : Type 0 where
  pub stored : (cid : Cid) → is_among blocks.stored.keys cid ≡ has_row rows cid
  pub gathers : Gathers (marked_blocks marked rows) blocks.found

abbrev pub IsChecked : List Cid → List Row → Checked → Type 0
IsChecked marked rows (Broken index) = block_break 0 None rows ≡ Some index
IsChecked marked rows (Whole blocks count) =
    (block_break 0 None rows ≡ None) × AreTaken marked rows blocks × (count ≡ length rows)

abbrev pub IsPlaced : (Cid → Bool) → List Row → Placed → Type 0
IsPlaced stored rows (Misplaced index) = place_break stored 0 [] rows ≡ Some index
IsPlaced stored rows (InPlace count) = (place_break stored 0 [] rows ≡ None) × (count ≡ length rows)

-- an identifier is marked where a block has it
abbrev pub Marks : List Cid → List Block → Type 0
Marks marked blocks = (cid : Cid) → length cid.0 ≡ 32 → is_among marked cid ≡ is_processed blocks cid

-- the rows of heads that no link names
abbrev pub digest_line : Cid → ℕ → Row
digest_line cid n = record { a = cid.0; b = []; c = []; n = n }

abbrev pub unlinked_rows : List Cid → List HeadRow → List Row
unlinked_rows links heads =
    map (λ (head : HeadRow). digest_line head.cid head.height)
    (filter (λ (head : HeadRow). not (is_among links head.cid)) heads)

-- table 1 is right, and this is what it gives
abbrev pub IsWhole : List Cid → Tables → Blocks → ℕ → Type 0
IsWhole marked t blocks count =
    (block_break 0 None (t 1) ≡ None) × AreTaken marked (t 1) blocks × (count ≡ length (t 1))

abbrev pub verdict_with : ℕ → ℕ → Option Place → Verdict
verdict_with processed stored None = Sound processed stored
verdict_with processed stored (Some place) = Differs place.table place.index
