use Rattle.mc_front.proofs.Places.{found_told}
use Rattle.mc_keep_tests.proofs.blocks.is_processed.Goals as goal

pub returns-clause-found : goal.returns-clause-found
returns-clause-found g c =
    found_told (g.K.Keeper.told c.args.keeper.now) c.args.cid.now c.in_ok-position.field-0 c.is_some.result c.is_some.ensures c.in_ok-position.ensures.row
