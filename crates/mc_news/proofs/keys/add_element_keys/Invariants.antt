use Rattle.std.proofs.Common.{◌≡◌, ◌++◌, take, map}
use Rattle.mc_model.specs.declared.delta.Element.{Element}
use Rattle.mc_news.specs.Keys.{texts_of}
use Rattle.mc_news.proofs.keys.add_element_keys.Given as goal

abbrev pub invariant-loop-element : goal.invariant-loop-element
invariant-loop-element l = texts_of l.keys.items ≡ texts_of l.initial.keys.items ++ map (λ (element : Element). element.key) (take l.element-index l.elements)
