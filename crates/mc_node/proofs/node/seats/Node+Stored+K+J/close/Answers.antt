use Rattle.mc_node.specs.Seats.{knows}
use Rattle.mc_node.proofs.SealedFacts.{sealed_ends}
use Rattle.mc_node.proofs.node.seats.Node+Stored+K+J.close.Goals as goal

pub returns-clause-leads : goal.returns-clause-leads
returns-clause-leads g c = λ root sealed. (sealed_ends g.K.Keeper.told g.K.Keeper.fuse g.K.Keeper.own g.K.Counted.faults g.K.Keeper.quiet g.K.Keeper.schedule _ root c.into_replica.result (knows c.args.seat).seen c.close.result.log.items sealed c.close.ensures.taken.seen c.into_replica.ensures.tied).leads

pub returns-clause-keeps : goal.returns-clause-keeps
returns-clause-keeps g c = λ root sealed. (sealed_ends g.K.Keeper.told g.K.Keeper.fuse g.K.Keeper.own g.K.Counted.faults g.K.Keeper.quiet g.K.Keeper.schedule _ root c.into_replica.result (knows c.args.seat).seen c.close.result.log.items sealed c.close.ensures.taken.seen c.into_replica.ensures.tied).keeps

pub returns-clause-rest : goal.returns-clause-rest
returns-clause-rest g c = λ root unwalked sealed. (sealed_ends g.K.Keeper.told g.K.Keeper.fuse g.K.Keeper.own g.K.Counted.faults g.K.Keeper.quiet g.K.Keeper.schedule _ root c.into_replica.result (knows c.args.seat).seen c.close.result.log.items sealed c.close.ensures.taken.seen c.into_replica.ensures.tied).rest unwalked
