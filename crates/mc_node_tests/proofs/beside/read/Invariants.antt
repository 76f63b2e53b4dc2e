use Rattle.std.proofs.Common.{◌≡◌}
use Rattle.mc_node_tests.proofs.beside.read.Given as goal

abbrev pub invariant-loop : goal.invariant-loop
invariant-loop l = l.eye.face ≡ l.fn.eye.face
