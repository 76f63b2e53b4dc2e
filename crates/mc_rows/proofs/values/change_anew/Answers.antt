-- The told blocks stay over the calls, so that the lemma joins what each of them says.
use Rattle.mc_rows.specs.Rows.{rows_of, tombs_of}
use Rattle.mc_keep.proofs.Frames.{read_more}
use Rattle.mc_rows.proofs.OneKey.{anew_told}
use Rattle.mc_rows.proofs.values.change_anew.Goals as goal

pub returns-clause-change : goal.returns-clause-change
returns-clause-change g c =
    anew_told (g.K.Keeper.told c.args.keeper.now) (rows_of c.args.elements.now) (tombs_of c.args.tombs.now) c.args.key.now c.args.old.now _ _ _ _
    c.requires.old c.in_ok-rows.ensures.row (rw c.as_slice.ensures at c.in_ok-best.ensures.best) (rw c.in_ok-rows.ensures.reads.told_same at c.in_ok-found.ensures.best) c.in_ok-change_to.ensures

pub returns-clause-reads : goal.returns-clause-reads
returns-clause-reads g c = read_more c.in_ok-rows.ensures.reads c.in_ok-found.ensures.reads
