use Rattle.std.proofs.Common.{sym}
use Rattle.std.proofs.lemmas.Result.{err_from_is_err_and}
use Rattle.mc_keep.proofs.Frames.{read_more, read_well}
use Rattle.mc_write.proofs.delete.delete_deltas.Goals as goal

pub returns-in_err-deltas-clause-reads : goal.returns-in_err-deltas-clause-reads
returns-in_err-deltas-clause-reads g c =
    let p = err_from_is_err_and c.from_residual-in_err-deltas.result c.from_residual-in_err-deltas.ensures.1 in
    rw (p.1, p.2) (read_well (read_more c.in_ok-pairs.ensures.reads c.in_ok-heads.ensures.reads) (sym c.in_err-deltas.ensures.keeper))
