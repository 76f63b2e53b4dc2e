use Rattle.mc_rows.proofs.OneKey.{winner_told}
use Rattle.mc_rows.proofs.Ties.{none_sorted}
use Rattle.mc_rows.proofs.winner.find_winner.Goals as goal

pub returns-clause-row : goal.returns-clause-row
returns-clause-row g c =
    winner_told (g.K.Keeper.told c.args.keeper.now) c.args.key.now _ _ _ c.in_ok-rows.ensures.row (rw c.as_slice.ensures at c.in_ok-best.ensures.best) c.cid_of.ensures

pub best_of_old-requires : goal.best_of_old-requires
best_of_old-requires g c = record { sorted = none_sorted }
