use Rattle.std.proofs.Common.{vec_len}
use Rattle.mc_run_tests.proofs.worlds.shown_of.Given as goal

abbrev pub decreases-loop-alloc : goal.decreases-loop-alloc
decreases-loop-alloc g l = vec_len l.parts
