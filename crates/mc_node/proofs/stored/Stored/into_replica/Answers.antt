use Rattle.mc_node.proofs.BoxFacts.{tied_in}
use Rattle.mc_node.proofs.stored.Stored.into_replica.Goals as goal

pub returns-clause-tied : goal.returns-clause-tied
returns-clause-tied g c = tied_in g.K.Keeper.told g.K.Keeper.fuse g.K.Keeper.own g.K.Counted.faults g.K.Keeper.quiet g.K.Keeper.schedule _ _ _ _ c.into_inner.ensures c.args.self.tied
