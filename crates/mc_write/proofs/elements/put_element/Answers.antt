use Rattle.std.proofs.Common.{◌∙◌, ap}
use Rattle.mc_write.specs.Held.{elements_in}
use Rattle.mc_write.proofs.ElementFacts.{elements_put}
use Rattle.mc_write.proofs.elements.put_element.Goals as goal

pub returns-in-Ok-clause-ok : goal.returns-in-Ok-clause-ok
returns-in-Ok-clause-ok c = ap elements_in c.in-Ok.ensures.entries ∙ elements_put c.args.elements.now.entries c.args.key c.args.value
