use Rattle.mc_past.proofs.WalkFacts.{value_found}
use Rattle.mc_past.proofs.below.value_at.Goals as goal

pub returns-in-Ok-value-clause-found : goal.returns-in-Ok-value-clause-found
returns-in-Ok-value-clause-found g c = value_found (g.K.Keeper.told c.args.replica.now.keeper) c.args.cid.now c.in-Ok.view c.args.key.now c.in-Ok-value.value c.in-Ok.ensures.walked c.in-Ok-value.ensures
