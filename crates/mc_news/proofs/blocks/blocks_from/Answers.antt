use Rattle.std.proofs.Common.{rules, refl}
use Rattle.mc_keep.proofs.Frames.{read_itself, read_more}
use Rattle.mc_news.proofs.BlockFacts.{so_far_first, so_far_last, so_far_more}
use Rattle.mc_news.proofs.blocks.blocks_from.Goals as goal

pub loop-blocks-init : goal.loop-blocks-init
loop-blocks-init g c = record { so_far = so_far_first _ _ _ c.new-blocks.ensures; reads = read_itself c.args.keeper.now }

pub returns-in_default-clause-blocks : goal.returns-in_default-clause-blocks
returns-in_default-clause-blocks g c =
    so_far_last _ _ _ _ _ _ c.loop-blocks.invariant.reads.told_same c.in_default.is c.loop-blocks.invariant.so_far c.in_ok-block.ensures.block

pub loop-blocks-preserved : goal.loop-blocks-preserved
loop-blocks-preserved g c = record {
  so_far = so_far_more _ _ _ _ _ _ _ _ c.in-Some.block c.loop-blocks.invariant.reads.told_same c.in-Some.is c.in_ok-add.ensures (search (rules, c.in-Some-checked_add.ensures)) c.loop-blocks.invariant.so_far c.in_ok-block.ensures.block;
  reads = read_more c.loop-blocks.invariant.reads c.in_ok-block.ensures.reads;
}
