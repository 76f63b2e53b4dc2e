-- From the element rows of a key to the pairs that a delete takes.
use Rattle.std.specs.Prelude.{Bool, ◌&&◌, List, nat_eq, reverse}
use Rattle.std.specs.List.{dedup}
use Rattle.mc_model.specs.Front.{same_cid}
use Rattle.mc_keep.specs.declared.rows.ElementRow.{ElementRow}

-- whether the rows are of one block: those of one have its priority
abbrev pub same_block : ElementRow → ElementRow → Bool
same_block a b = nat_eq a.priority b.priority && same_cid a.cid b.cid

-- of rows that ascend by the block and then by the value, the last of each block, from the last row to the first
abbrev pub last_rows : List ElementRow → List ElementRow
last_rows rows = dedup same_block (reverse rows)
