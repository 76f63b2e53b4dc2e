use Rattle.std.proofs.Common.{length}
use Rattle.mc_pull.proofs.shows.+all_show.Given as goal

abbrev pub decreases-all_show : goal.decreases-all_show
decreases-all_show g l = length l.fetches.now
