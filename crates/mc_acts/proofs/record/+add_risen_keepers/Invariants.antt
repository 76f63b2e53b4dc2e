use Rattle.std.proofs.Common.{length}
use Rattle.mc_acts.proofs.record.+add_risen_keepers.Given as goal

abbrev pub decreases-add_risen_keepers : goal.decreases-add_risen_keepers
decreases-add_risen_keepers g l = length l.before.now
