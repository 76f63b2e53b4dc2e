use Rattle.std.proofs.Common.{◌≡◌, ◌≤◌, ◌+◌, ◌++◌, vec_len, vec_capacity}
use Rattle.mc_seats.specs.Openings.{parts_of}
use Rattle.mc_seats.proofs.opening.join.Given as goal

abbrev pub invariant-loop-seats : goal.invariant-loop-seats
invariant-loop-seats g l = (parts_of l.fn.seats.items l.fn.desks.items ++ l.fn.parts.items ≡ parts_of l.seats.items l.desks.items ++ l.parts.items)
    × (vec_len l.seats ≡ vec_len l.desks) × (vec_len l.seats + vec_len l.parts ≤ vec_capacity l.parts)

abbrev pub decreases-loop-seats : goal.decreases-loop-seats
decreases-loop-seats g l = vec_len l.seats
