-- What is gathered of processed blocks, before it is put in order.
use Rattle.std.specs.Prelude.{◌≡◌, List, [], fold, map}
use Rattle.indexmap.specs.IndexSet.{insert_key}
use Rattle.mc_base.specs.declared.cid.Cid.{Cid}
use Rattle.mc_model.specs.declared.block.Block.{Block}
use Rattle.mc_model.specs.Front.{same_cid}
use Rattle.mc_raw.specs.RowTables.{element_lines, tomb_lines}
use Rattle.mc_audit.specs.declared.found.Found.{Found}
use Rattle.mc_audit.specs.Rows.{head_row_of}

-- the links with those of one more block
abbrev pub with_links : List Cid → Block → List Cid
with_links cids block = fold (insert_key same_cid) cids block.links

pub record Gathers (blocks : List Block) (found : Found) : Type 0 where
  pub elements : found.elements.items ≡ element_lines blocks
  pub tombs : found.tombs.items ≡ tomb_lines blocks
  pub heads : found.heads.items ≡ map head_row_of blocks
  pub links : found.links.keys ≡ fold with_links [] blocks
