use Rattle.mc_node.proofs.SealedFacts.{sealed_on}
use Rattle.mc_pull.proofs.crew.rounds.settle.Goals as goal

pub returns-then-not-relayed-clause-sealed : goal.returns-then-not-relayed-clause-sealed
returns-then-not-relayed-clause-sealed g c = λ replica sealed. sealed

pub returns-clause-sealed : goal.returns-clause-sealed
returns-clause-sealed g c = sealed_on _ _ c.settle.ensures.seen
