use Rattle.mc_keep.proofs.Frames.{read_more}
use Rattle.mc_news.proofs.BlockFacts.{found_at, none_past, none_stored}
use Rattle.mc_news.proofs.blocks.block_at.Goals as goal

pub returns-in_default-clause-block : goal.returns-in_default-clause-block
returns-in_default-clause-block g c = none_past _ _ _ c.in_default.is c.in_ok-cid.ensures.row

pub returns-in_default-2-clause-block : goal.returns-in_default-2-clause-block
returns-in_default-2-clause-block g c =
    none_stored _ _ _ _ c.in-Some.cid _ c.is_sound.ensures c.in_ok-cid.ensures.reads.told_same c.in-Some.is c.in_default-2.is c.in_ok-cid.ensures.row c.in_ok-bytes.ensures.row

pub returns-clause-block : goal.returns-clause-block
returns-clause-block g c =
    found_at _ _ _ _ c.in-Some.cid _ c.in-Some-2.bytes _ _ c.is_sound.ensures c.in_ok-cid.ensures.reads.told_same c.in-Some.is c.in-Some-2.is c.as_slice.ensures c.in_ok-cid.ensures.row c.in_ok-bytes.ensures.row c.in_ok-found.ensures
