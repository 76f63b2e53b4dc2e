-- One more tombstone, over the same told blocks.
use Rattle.std.proofs.Common.{rules}
use Rattle.mc_rows.specs.Rows.{tombs_of}
use Rattle.mc_keep.proofs.Frames.{read_itself, read_more, read_well}
use Rattle.mc_rows.proofs.Sorts.{tombs_more}
use Rattle.mc_rows.proofs.tombs.gather_of.Goals as goal

pub loop-tomb-init : goal.loop-tomb-init
loop-tomb-init g c = record { reads = read_itself c.args.keeper.now; rows = search rules }

pub loop-tomb-preserved : goal.loop-tomb-preserved
loop-tomb-preserved g c = record {
  reads = read_more c.loop-tomb.invariant.reads c.in_ok-gather_one.ensures.reads;
  rows = tombs_more (g.K.Keeper.told c.args.keeper.now) (tombs_of c.args.tombs.now.items) (tombs_of c.loop-tomb.tombs.items) (tombs_of c.gather_one.new.tombs.items)
      c.args.tombstones.now c.loop-tomb.tomb-index c.tomb-item.result c.loop-tomb-test.true c.tomb-item.is c.loop-tomb.invariant.rows (rw c.loop-tomb.invariant.reads.told_same at c.in_ok-gather_one.ensures.rows);
}

pub returns-in_err-gather_one-clause-reads : goal.returns-in_err-gather_one-clause-reads
returns-in_err-gather_one-clause-reads g c = read_well (read_more c.loop-tomb.invariant.reads c.in_err-gather_one.ensures.reads) (search rules)
