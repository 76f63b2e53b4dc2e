use Rattle.mc_turn.specs.Seats.{IsSeatOf}
use Rattle.mc_node_tests.proofs.shops.find.Given as goal

abbrev pub invariant-loop : goal.invariant-loop
invariant-loop g l = IsSeatOf l.fn.node.turn l.seat.seat
