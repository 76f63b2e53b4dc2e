use Rattle.std.proofs.Common.{rules}
use Rattle.mc_keep.proofs.Frames.{read_more, read_well}
use Rattle.mc_front.proofs.front.rows_of.Goals as goal

pub returns-in_err-heads_out-clause-reads : goal.returns-in_err-heads_out-clause-reads
returns-in_err-heads_out-clause-reads g c =
    read_well (read_more c.in_ok-links.ensures.reads c.in_err-heads_out.ensures.reads) (search rules)

pub returns-in_err-heads_in-clause-reads : goal.returns-in_err-heads_in-clause-reads
returns-in_err-heads_in-clause-reads g c =
    read_well (read_more (read_more c.in_ok-links.ensures.reads c.in_ok-heads_out.ensures.reads) c.in_err-heads_in.ensures.reads) (search rules)

pub returns-clause-heads_out : goal.returns-clause-heads_out
returns-clause-heads_out g c = rw (c.in_ok-links.ensures.reads.told_same, c.as_slice-2.ensures) at c.in_ok-heads_out.ensures.old
