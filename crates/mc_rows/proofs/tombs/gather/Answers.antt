-- One more block, over the same told blocks.
use Rattle.std.proofs.Common.{rules}
use Rattle.mc_rows.specs.Rows.{tombs_of}
use Rattle.mc_keep.proofs.Frames.{read_more, read_well}
use Rattle.mc_rows.proofs.Sorts.{blocks_more}
use Rattle.mc_rows.proofs.tombs.gather.Goals as goal

pub loop-block-preserved : goal.loop-block-preserved
loop-block-preserved g c = record {
  reads = read_more c.loop-block.invariant.reads c.in_ok-gather_of.ensures.reads;
  rows = blocks_more (g.K.Keeper.told c.args.keeper.now) (tombs_of c.loop-block.tombs.items) (tombs_of c.gather_of.new.tombs.items)
      c.args.blocks.now c.loop-block.block-index c.block-item.result c.loop-block-test.true c.block-item.is c.loop-block.invariant.rows
      (rw (c.loop-block.invariant.reads.told_same, c.as_slice.ensures) at c.in_ok-gather_of.ensures.rows);
}

pub returns-in_err-gather_of-clause-reads : goal.returns-in_err-gather_of-clause-reads
returns-in_err-gather_of-clause-reads g c = read_well (read_more c.loop-block.invariant.reads c.in_err-gather_of.ensures.reads) (search rules)
