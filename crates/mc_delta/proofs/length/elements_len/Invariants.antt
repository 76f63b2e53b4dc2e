use Rattle.std.proofs.Common.{◌≡◌, length, take}
use Rattle.std.specs.List.{flat_map}
use Rattle.mc_model.specs.DeltaText.{element_bytes}
use Rattle.mc_delta.specs.Lengths.{capped}
use Rattle.mc_delta.proofs.length.elements_len.Given as goal

abbrev pub invariant-loop-element : goal.invariant-loop-element
invariant-loop-element l = l.len ≡ capped (length (flat_map element_bytes (take l.element-index l.elements)))
