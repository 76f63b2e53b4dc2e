use Rattle.std.proofs.lemmas.Result.{err_from_is_err_and}
use Rattle.mc_keep.proofs.Frames.{read_more}
use Rattle.mc_plan.proofs.DeliverFacts.{place_told, with_links}
use Rattle.mc_plan.proofs.deliveries.plan_block.Goals as goal

pub uptake_of-requires-clause-new : goal.uptake_of-requires-clause-new
uptake_of-requires-clause-new g c =
    rw (c.in_ok-position.ensures.reads.told_same, c.in_ok-links.ensures.reads.told_same)
    (with_links _ c.args.block.now c.args.bytes _ c.requires.new c.in_ok-links.ensures.links)

pub uptake_of-requires-clause-stored : goal.uptake_of-requires-clause-stored
uptake_of-requires-clause-stored g c = rw (c.in_ok-position.ensures.reads.told_same, c.in_ok-links.ensures.reads.told_same) c.requires.stored

pub returns-clause-uptake : goal.returns-clause-uptake
returns-clause-uptake g c = rw (c.in_ok-position.ensures.reads.told_same, c.in_ok-links.ensures.reads.told_same) at c.in_ok-uptake.ensures.uptake

pub returns-clause-position : goal.returns-clause-position
returns-clause-position g c = place_told _ _ (rw (c.in_ok-links.ensures.reads.told_same) at c.in_ok-position.ensures.row)

pub returns-clause-reads : goal.returns-clause-reads
returns-clause-reads g c = read_more (read_more c.in_ok-links.ensures.reads c.in_ok-position.ensures.reads) c.in_ok-uptake.ensures.reads

pub returns-in_err-uptake-clause-reads : goal.returns-in_err-uptake-clause-reads
returns-in_err-uptake-clause-reads g c =
    let p = err_from_is_err_and c.from_residual-in_err-uptake.result c.from_residual-in_err-uptake.ensures.1 in
    rw (p.1, p.2) (read_more (read_more c.in_ok-links.ensures.reads c.in_ok-position.ensures.reads) c.in_err-uptake.ensures.reads)
