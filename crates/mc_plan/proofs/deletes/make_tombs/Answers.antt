use Rattle.mc_plan.proofs.DeleteFacts.{blocks_due}
use Rattle.mc_keep.proofs.Frames.{read_more}
use Rattle.mc_plan.proofs.deletes.make_tombs.Goals as goal

pub returns-clause-refused : goal.returns-clause-refused
returns-clause-refused g c =
    blocks_due _ _ _ _ _ (rw (c.as_slice.ensures) at c.have_priorities.ensures) c.in-Ok.ensures.cuts (rw (c.in-Ok.ensures.reads.told_same) at c.in_ok-links.ensures.links) (rw (c.in_ok-links.ensures.reads.told_same, c.in-Ok.ensures.reads.told_same) at c.make_blocks.ensures.refused)

pub returns-clause-reads : goal.returns-clause-reads
returns-clause-reads g c = read_more (read_more c.in-Ok.ensures.reads c.in_ok-links.ensures.reads) c.make_blocks.ensures.reads
