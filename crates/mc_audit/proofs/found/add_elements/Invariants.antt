use Rattle.std.proofs.Common.{◌≡◌, ◌++◌, take, map}
use Rattle.mc_raw.specs.RowTables.{element_line}
use Rattle.mc_audit.proofs.found.add_elements.Given as goal

abbrev pub invariant-loop-element : goal.invariant-loop-element
invariant-loop-element l = l.rows.items ≡ l.initial.rows.items ++ map (element_line l.block) (take l.element-index l.block.delta.elements)
