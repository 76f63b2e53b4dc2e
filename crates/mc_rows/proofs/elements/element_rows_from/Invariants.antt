use Rattle.std.proofs.Common.{◌≡◌, take}
use Rattle.mc_rows.specs.Rows.{rows_of}
use Rattle.mc_rows.proofs.elements.element_rows_from.Given as goal

abbrev pub invariant-loop-element : goal.invariant-loop-element
invariant-loop-element l = l.rows ≡ rows_of (take l.element-index l.elements)
