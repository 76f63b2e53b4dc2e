use Rattle.std.proofs.Common.{◌≡◌, ◌++◌, take, map}
use Rattle.mc_rows.specs.declared.elements.NewElement.{NewElement}
use Rattle.mc_rows.proofs.keys.add_element_keys.Given as goal

abbrev pub invariant-loop-element : goal.invariant-loop-element
invariant-loop-element l = l.keys.items ≡ l.initial.keys.items ++ map (λ (e : NewElement). e.key) (take l.element-index l.elements)
