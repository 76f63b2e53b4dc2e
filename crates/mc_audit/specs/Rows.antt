-- Plain rows as blocks and heads.
use Rattle.std.specs.Prelude.{Bool, List}
use Rattle.std.specs.Ordering.{is_eq}
use Rattle.mc_base.specs.declared.cid.Cid.{Cid}
use Rattle.mc_model.specs.declared.block.Block.{Block}
use Rattle.mc_model.specs.declared.block.Stored.{Stored}
use Rattle.mc_model.specs.Kept.{blocks_in}
use Rattle.std.specs.Prelude.{map}
use Rattle.mc_raw.specs.declared.raw.Row.{Row}
use Rattle.mc_keep.specs.declared.rows.HeadRow.{HeadRow}
use Rattle.mc_raw.specs.Raw.{Tables}
use Rattle.mc_raw.specs.RowOrder.{row_cmp}

-- whether two rows are equal in all columns
abbrev pub same_row : Row → Row → Bool
same_row a b = is_eq (row_cmp a b)

-- the identifier with a row's digest, and the block of a row of table 1
abbrev pub cid_in : Row → Cid
cid_in row = record { 0 = row.a }

abbrev pub stored_in : Row → Stored
stored_in row = record { cid = cid_in row; bytes = row.b }

-- the processed blocks that tables 1 and 2 give, in the order of processing
abbrev pub blocks_of : Tables → List Block
blocks_of tables = blocks_in (map stored_in (tables 1)) (map cid_in (tables 2))

abbrev pub head_row_of : Block → HeadRow
head_row_of block = record { cid = block.cid; height = block.delta.priority }
