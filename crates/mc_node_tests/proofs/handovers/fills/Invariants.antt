use Rattle.std.proofs.Common.{◌≡◌, true}
use Rattle.mc_node.specs.Entries.{is_sealed_log}
use Rattle.mc_node.specs.Seats.{knows}
use Rattle.mc_turn.specs.Seats.{IsSeatOf}
use Rattle.mc_node_tests.proofs.handovers.fills.Given as goal

abbrev pub invariant-loop-number : goal.invariant-loop-number
invariant-loop-number g l = record {
  own : IsSeatOf l.fn.node.turn l.seat.seat;
  others : IsSeatOf l.fn.node.turn l.other.seat;
  sealed : is_sealed_log (knows l.seat).seen ≡ true;
}
