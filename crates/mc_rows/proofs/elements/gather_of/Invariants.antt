use Rattle.std.proofs.Common.{◌≡◌, ◌++◌, take, map}
use Rattle.mc_keep.specs.Tables.{element_row}
use Rattle.mc_rows.specs.Rows.{rows_of}
use Rattle.mc_rows.proofs.elements.gather_of.Given as goal

abbrev pub invariant-loop-element : goal.invariant-loop-element
invariant-loop-element l = rows_of l.elements.items ≡ rows_of l.initial.elements.items ++ map (element_row l.block) (take l.element-index l.block.delta.elements)
