use Rattle.mc_node.proofs.SealedFacts.{sealed_on}
use Rattle.mc_node.proofs.node.seats.Node+Stored+K+J.join.Goals as goal

pub returns-clause-sealed : goal.returns-clause-sealed
returns-clause-sealed g c = sealed_on _ _ c.join.ensures.one.0
