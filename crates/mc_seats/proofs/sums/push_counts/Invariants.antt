use Rattle.std.proofs.Common.{◌≡◌, ◌≤◌, ◌+◌, ◌++◌, length, take, vec_len, vec_capacity}
use Rattle.mc_seats.specs.Desked.{desk_sums}
use Rattle.mc_seats.proofs.sums.push_counts.Given as goal

abbrev pub invariant-loop-list : goal.invariant-loop-list
invariant-loop-list g l = (l.counts.items ≡ l.initial.counts.items ++ desk_sums g.K.Desk.Counted.faults (take l.list-index l.desks))
    × (vec_len l.counts + length l.desks ≤ vec_capacity l.counts + l.list-index)
