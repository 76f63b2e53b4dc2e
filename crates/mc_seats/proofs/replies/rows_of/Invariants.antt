use Rattle.std.proofs.Common.{◌≡◌}
use Rattle.std.specs.Prelude.{map}
use Rattle.mc_query.specs.Places.{pair_of}
use Rattle.mc_seats.proofs.replies.rows_of.Given as goal

abbrev pub invariant-loop-pair : goal.invariant-loop-pair
invariant-loop-pair l = l.rows ≡ map pair_of l.yielded
