-- The rows of the front, as they are made one after another.
use Rattle.std.specs.Prelude.{Bool, not, ◌||◌, List, [], fold, filter, map}
use Rattle.indexmap.specs.IndexSet.{insert_key}
use Rattle.mc_base.specs.declared.cid.Cid.{Cid}
use Rattle.mc_model.specs.declared.block.Block.{Block}
use Rattle.mc_model.specs.Front.{same_cid, is_among, is_linked}
use Rattle.mc_keep.specs.declared.rows.HeadRow.{HeadRow}
use Rattle.mc_front.specs.Front.{head_row}

-- the links with those of one more block
abbrev pub with_links : List Cid → Block → List Cid
with_links cids block = fold (insert_key same_cid) cids block.links

-- the links of the blocks, each once, as they stand first
abbrev pub different_links : List Block → List Cid
different_links blocks = fold with_links [] blocks

-- those that no processed block has
abbrev pub unlinked : List Block → List Cid → List Cid
unlinked blocks cids = filter (λ (cid : Cid). not (is_linked blocks cid)) cids

-- whether a block or one of these links leads to it
abbrev pub leads_to : List Block → List Cid → Cid → Bool
leads_to blocks cids cid = is_among cids cid || is_linked blocks cid

-- the rows of the blocks to which nothing leads
abbrev pub rows_of_heads : List Block → List Cid → List Block → List HeadRow
rows_of_heads blocks cids more = map head_row (filter (λ (block : Block). not (leads_to blocks cids block.cid)) more)
