-- What the rows of the front and the mark become with a group of blocks, all at once.
use Rattle.std.specs.Prelude.{◌≡◌, ◌==◌, Bool, true, not, ◌&&◌, List, length, map, filter, Option, is_some, unwrap_or}
use Rattle.std.specs.Prelude.{if◌then◌else◌, IfSome, ◌++◌}
use Rattle.mc_base.specs.declared.cid.Cid.{Cid}
use Rattle.mc_model.specs.declared.block.Block.{Block}
use Rattle.mc_model.specs.Ascending.{is_once}
use Rattle.mc_model.specs.Front.{same_cid, is_among, is_linked, head_at, gaps}
use Rattle.mc_keep.specs.declared.rows.HeadRow.{HeadRow}

-- the row of a block as a head
abbrev pub head_row : Block → HeadRow
head_row block = record { cid = block.cid; height = block.delta.priority }

-- the new heads: those of the blocks that no block links to, in their order
abbrev pub new_heads : List Block → List Block → List HeadRow
new_heads blocks more = map head_row (filter (λ (block : Block). not (is_linked (blocks ++ more) block.cid)) more)

-- the identifiers are those of the old heads that the new blocks link to, each once
pub record HeadsOut (blocks more : List Block) (out : List Cid) : Type 0 where
  pub heads : (cid : Cid) → is_among out cid ≡ (is_some (head_at blocks cid) && is_linked more cid)
  pub once : is_once same_cid out ≡ true

-- the mark over these blocks: where every gap is wanted it is set exactly where there is a gap, and else it stays
abbrev pub mark_over : Bool → Bool → List Block → Bool
mark_over whole mark blocks = if whole then not (length (gaps blocks) == 0) else mark

-- the change takes the mark to that over the blocks, and is there only where the mark changes
pub record MarkFits (whole mark : Bool) (blocks : List Block) (change : Option Bool) : Type 0 where
  pub after : unwrap_or change mark ≡ mark_over whole mark blocks
  pub changes : IfSome change (λ (new : Bool). new ≡ not mark)
