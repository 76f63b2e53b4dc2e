use Rattle.std.proofs.Common.{◌≡◌, take}
use Rattle.mc_keep.specs.Tables.{element_rows}
use Rattle.mc_rows.specs.Rows.{rows_of}
use Rattle.mc_rows.proofs.elements.gather.Given as goal

abbrev pub invariant-loop-block : goal.invariant-loop-block
invariant-loop-block l = rows_of l.elements.items ≡ element_rows (take l.block-index l.blocks)
