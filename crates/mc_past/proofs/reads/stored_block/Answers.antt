use Rattle.mc_past.proofs.WalkFacts.{block_found, none_found}
use Rattle.mc_past.proofs.reads.stored_block.Goals as goal

pub returns-in-Ok-clause-block : goal.returns-in-Ok-clause-block
returns-in-Ok-clause-block g c =
    block_found c.kept_is_durable.ensures.processed (g.K.Keeper.told c.args.replica.now.keeper) c.in-Ok-Some.field-0 c.in-Ok-Some.bytes c.as_slice.result.now c.args.cid.now c.in-Ok.found c.is_sound.ensures.kept c.in-Ok-Some.field-0-is c.as_slice.ensures c.in-Ok-Some.ensures.bytes c.in-Ok.ensures.good

pub returns-in-Ok-None-clause-block : goal.returns-in-Ok-None-clause-block
returns-in-Ok-None-clause-block g c =
    none_found c.kept_is_durable.ensures.processed (g.K.Keeper.told c.args.replica.now.keeper) c.in-Ok-None.field-0 c.args.cid.now c.is_sound.ensures.kept c.in-Ok-None.field-0-is c.in-Ok-None.ensures.bytes
