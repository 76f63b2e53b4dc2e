use Rattle.mc_lend.proofs.fetches.+lend_fetches.Given as goal

abbrev pub decreases-lend_fetches : goal.decreases-lend_fetches
decreases-lend_fetches g l = l.count
