use Rattle.std.proofs.Common.{length}
use Rattle.mc_world.proofs.sites.+let_go.Given as goal

abbrev pub decreases-let_go : goal.decreases-let_go
decreases-let_go g l = length l.sites.items
