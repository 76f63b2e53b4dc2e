use Rattle.std.proofs.Common.{length}
use Rattle.mc_lend.proofs.lending.+return_each.Given as goal

abbrev pub decreases-return_each : goal.decreases-return_each
decreases-return_each g l = length l.sites.now
