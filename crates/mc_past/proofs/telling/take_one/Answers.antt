use Rattle.mc_past.proofs.TellingFacts.{takes_none, takes_some}
use Rattle.mc_past.proofs.telling.take_one.Goals as goal

pub returns-in-Ok-clause-takes : goal.returns-in-Ok-clause-takes
returns-in-Ok-clause-takes g c =
    takes_some (g.K.Keeper.told c.args.replica.now.keeper) c.args.position c.in-Ok-Some.field-0 c.in-Ok-Some.block c.args.live.now c.take.new.self c.in-Ok-Some.field-0-is c.in-Ok-Some.ensures.block c.in-Ok.ensures.ok

pub returns-in-Ok-None-clause-takes : goal.returns-in-Ok-None-clause-takes
returns-in-Ok-None-clause-takes g c = takes_none (g.K.Keeper.told c.args.replica.now.keeper) c.args.position c.in-Ok-None.field-0 c.args.live.now c.in-Ok-None.field-0-is c.in-Ok-None.ensures.block
