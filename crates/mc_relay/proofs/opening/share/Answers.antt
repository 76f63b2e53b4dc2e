use Rattle.std.proofs.Common.{ap}
use Rattle.mc_relay.specs.Items.{IsRight}
use Rattle.mc_relay.proofs.PassFacts.{hires}
use Rattle.mc_relay.proofs.opening.share.Goals as goal

pub another-pass-requires-clause-rule : goal.another-pass-requires-clause-rule
another-pass-requires-clause-rule g c = hires (IsRight g.J.Naming.found) _ _ (ap (λ v. v.takes) c.loop.invariant.made)
