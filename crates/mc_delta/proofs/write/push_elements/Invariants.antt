use Rattle.std.proofs.Common.{◌≡◌, ◌++◌, take}
use Rattle.std.specs.List.{flat_map}
use Rattle.mc_model.specs.DeltaText.{element_bytes}
use Rattle.mc_delta.proofs.write.push_elements.Given as goal

abbrev pub invariant-loop-element : goal.invariant-loop-element
invariant-loop-element l = l.out ≡ l.initial.out ++ flat_map element_bytes (take l.element-index l.elements)
