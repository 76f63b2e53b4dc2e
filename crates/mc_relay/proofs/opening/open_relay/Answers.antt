use Rattle.mc_relay.specs.Items.{IsRight}
use Rattle.mc_relay.proofs.PassFacts.{begins}
use Rattle.mc_relay.proofs.opening.open_relay.Goals as goal

pub ruled-requires-clause-rule : goal.ruled-requires-clause-rule
ruled-requires-clause-rule g c = begins (IsRight g.J.Naming.found)
