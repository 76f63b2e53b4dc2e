use Rattle.std.proofs.Common.{take}
use Rattle.std.specs.List.{list_all}
use Rattle.std.specs.Prelude.{IsTrue}
use Rattle.mc_delta.specs.Written.{element_has_text}
use Rattle.mc_block.proofs.limits.elements_have_texts.Given as goal

abbrev pub invariant-loop-element : goal.invariant-loop-element
invariant-loop-element l = IsTrue (list_all element_has_text (take l.element-index l.elements))
