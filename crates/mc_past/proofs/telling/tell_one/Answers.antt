use Rattle.mc_past.proofs.TellingFacts.{tells_none, tells_some}
use Rattle.mc_past.proofs.telling.tell_one.Goals as goal

pub returns-in-Ok-clause-tells : goal.returns-in-Ok-clause-tells
returns-in-Ok-clause-tells g c =
    tells_some (g.K.Keeper.told c.args.replica.now.keeper) c.args.position c.in-Ok-Some.field-0 c.in-Ok-Some.block c.args.live.now c.tell_block.new.live c.args.taken.now.events c.tell_block.new.hook.events c.in-Ok-Some.field-0-is c.in-Ok-Some.ensures.block c.in-Ok.ensures.ok

pub returns-in-Ok-None-clause-tells : goal.returns-in-Ok-None-clause-tells
returns-in-Ok-None-clause-tells g c = tells_none (g.K.Keeper.told c.args.replica.now.keeper) c.args.position c.in-Ok-None.field-0 c.args.live.now c.args.taken.now.events c.in-Ok-None.field-0-is c.in-Ok-None.ensures.block
