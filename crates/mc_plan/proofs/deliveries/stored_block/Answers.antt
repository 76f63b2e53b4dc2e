use Rattle.mc_plan.proofs.DeliverFacts.{read_told}
use Rattle.mc_plan.proofs.deliveries.stored_block.Goals as goal

pub returns-in-Ok-Some-clause-stored : goal.returns-in-Ok-Some-clause-stored
returns-in-Ok-Some-clause-stored g c =
    read_told _ c.args.cid.now c.in-Ok-Some.bytes _ c.is_sound.ensures (rw c.in-Ok-Some.field-0-is at c.in-Ok-Some.ensures.row) c.read_stored.ensures.stored
