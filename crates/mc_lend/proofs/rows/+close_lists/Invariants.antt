use Rattle.std.proofs.Common.{length}
use Rattle.mc_lend.proofs.rows.+close_lists.Given as goal

abbrev pub decreases-close_lists : goal.decreases-close_lists
decreases-close_lists g l = length l.lists.now
