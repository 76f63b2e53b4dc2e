use Rattle.mc_turn.specs.Seats.{IsSeatOf, IsIdle}
use Rattle.mc_part_tests.proofs.turns.append_numbers.Given as goal

abbrev pub invariant-loop-entry : goal.invariant-loop-entry
invariant-loop-entry g l = IsSeatOf l.fn.turn l.seat × IsIdle l.seat
