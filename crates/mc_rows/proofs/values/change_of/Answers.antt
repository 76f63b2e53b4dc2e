use Rattle.mc_keep.proofs.Frames.{read_more}
use Rattle.mc_rows.proofs.values.change_of.Goals as goal

pub returns-then-branch-clause-reads : goal.returns-then-branch-clause-reads
returns-then-branch-clause-reads g c = read_more c.in_ok-old.ensures.reads c.change_anew.ensures.reads

pub returns-clause-reads : goal.returns-clause-reads
returns-clause-reads g c = read_more c.in_ok-old.ensures.reads c.change_on.ensures.reads
