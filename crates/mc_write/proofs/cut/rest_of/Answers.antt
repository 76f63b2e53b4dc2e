use Rattle.mc_write.proofs.CutFacts.{rest_seen}
use Rattle.mc_write.proofs.cut.rest_of.Goals as goal

pub returns-clause-rest : goal.returns-clause-rest
returns-clause-rest c = rest_seen c.args.taken c.args.pairs.now
