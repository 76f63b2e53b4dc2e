use Rattle.std.proofs.Common.{length}
use Rattle.mc_world.proofs.sites.+push_sites.Given as goal

abbrev pub decreases-push_sites : goal.decreases-push_sites
decreases-push_sites g l = length l.seats.now
