use Rattle.mc_group.proofs.SlotFacts.{found_told}
use Rattle.mc_group.proofs.gathering.stored_block.Goals as goal

pub returns-in-Ok-Some-clause-stored : goal.returns-in-Ok-Some-clause-stored
returns-in-Ok-Some-clause-stored g c =
    found_told _ c.args.cid.now c.in-Ok-Some.bytes _ c.is_sound.ensures (rw c.in-Ok-Some.field-0-is at c.in-Ok-Some.ensures.row) (rw (c.as_slice.ensures) at c.read_stored.ensures.good)
