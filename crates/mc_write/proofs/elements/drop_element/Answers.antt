use Rattle.std.proofs.Common.{◌∙◌, ap}
use Rattle.mc_write.specs.Held.{elements_in}
use Rattle.mc_write.proofs.ElementFacts.{elements_drop}
use Rattle.mc_write.proofs.elements.drop_element.Goals as goal

pub returns-clause-elements : goal.returns-clause-elements
returns-clause-elements c = ap elements_in c.remove.ensures.entries ∙ elements_drop c.args.key.now c.args.elements.now.entries c.requires
