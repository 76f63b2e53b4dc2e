use Rattle.mc_keep.proofs.Frames.{read_more}
use Rattle.mc_plan.proofs.WalkFacts.{open_none, open_past, open_some}
use Rattle.mc_plan.proofs.walks.open_links_at.Goals as goal

pub returns-in_default-clause-links : goal.returns-in_default-clause-links
returns-in_default-clause-links g c = open_past _ _ _ _ c.in_default.is c.new.ensures c.in_ok-cid.ensures.row

pub returns-in_default-2-clause-links : goal.returns-in_default-2-clause-links
returns-in_default-2-clause-links g c =
    open_none _ _ _ _ c.in-Some.cid _ _ c.in_ok-cid.ensures.reads.told_same c.in-Some.is c.in_default-2.is c.new-in_default-2.ensures c.in_ok-cid.ensures.row c.in_ok-bytes.ensures.row

pub returns-clause-links : goal.returns-clause-links
returns-clause-links g c =
    open_some c.kept_is_durable.ensures.block_links _ _ _ _ _ c.in-Some.cid _ c.in-Some-2.bytes _ c.in_ok-links.links _ _ c.is_sound.ensures c.in_ok-cid.ensures.reads.told_same c.in_ok-bytes.ensures.reads.told_same c.in-Some.is c.in-Some-2.is
    c.as_slice.ensures c.as_slice-2.ensures c.in_ok-cid.ensures.row c.in_ok-bytes.ensures.row c.in_ok-links.ensures.good c.unprocessed.ensures.left

pub returns-clause-reads : goal.returns-clause-reads
returns-clause-reads g c = read_more c.in_ok-cid.ensures.reads (read_more c.in_ok-bytes.ensures.reads c.unprocessed.ensures.reads)
