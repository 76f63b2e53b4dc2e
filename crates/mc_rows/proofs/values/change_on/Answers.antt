-- The told blocks stay over the call.
use Rattle.mc_rows.specs.Rows.{rows_of, tombs_of}
use Rattle.mc_rows.proofs.OneKey.{on_told}
use Rattle.mc_rows.proofs.values.change_on.Goals as goal

pub returns-clause-change : goal.returns-clause-change
returns-clause-change g c =
    on_told (g.K.Keeper.told c.args.keeper.now) (rows_of c.args.elements.now) (tombs_of c.args.tombs.now) c.args.key.now c.args.old.now _ _ _
    c.requires.old c.requires.stands c.best_of-best.ensures c.in_ok-found.ensures.best c.in_ok-change_to.ensures
