use Rattle.mc_node.proofs.SealedFacts.{sealed_on}
use Rattle.mc_node.proofs.node.seats.Node+Stored+K+J.learn.Goals as goal

pub returns-clause-sealed : goal.returns-clause-sealed
returns-clause-sealed g c = sealed_on _ _ c.learn.ensures.one.0
