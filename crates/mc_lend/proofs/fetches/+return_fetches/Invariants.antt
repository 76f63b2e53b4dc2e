use Rattle.std.proofs.Common.{length}
use Rattle.mc_lend.proofs.fetches.+return_fetches.Given as goal

abbrev pub decreases-return_fetches : goal.decreases-return_fetches
decreases-return_fetches g l = length l.fetches.now.items
