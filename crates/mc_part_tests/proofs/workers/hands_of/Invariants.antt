use Rattle.std.proofs.Common.{◌≡◌, All, None}
use Rattle.mc_part_tests.proofs.workers.hands_of.Given as goal

abbrev pub invariant-loop : goal.invariant-loop
invariant-loop l = All (λ hand. hand.seat.out ≡ None) l.hands.items
