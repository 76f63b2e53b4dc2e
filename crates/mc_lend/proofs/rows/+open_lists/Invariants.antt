use Rattle.std.proofs.Common.{length}
use Rattle.mc_lend.proofs.rows.+open_lists.Given as goal

abbrev pub decreases-open_lists : goal.decreases-open_lists
decreases-open_lists g l = length l.lists.now
