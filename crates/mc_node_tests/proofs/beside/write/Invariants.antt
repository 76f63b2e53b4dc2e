use Rattle.std.proofs.Common.{◌≡◌, true}
use Rattle.mc_turn.specs.Seats.{view, IsSeatOf}
use Rattle.mc_node.specs.Entries.{is_open}
use Rattle.mc_node.specs.Seats.{knows}
use Rattle.mc_node_tests.proofs.beside.write.Given as goal

abbrev pub invariant-loop-number : goal.invariant-loop-number
invariant-loop-number g l = record {
  place : IsSeatOf l.fn.node.turn l.place.seat;
  unsealed : is_open (knows l.place).seen ≡ true;
  seat : IsSeatOf l.fn.face.turn l.seat.seat;
  same : (view l.seat.seat).seen ≡ (view l.fn.seat.seat).seen;
}
