use Rattle.std.proofs.Common.{length}
use Rattle.mc_acts.proofs.record.+add_risen.Given as goal

abbrev pub decreases-add_risen : goal.decreases-add_risen
decreases-add_risen l = length l.before.now
