use Rattle.std.proofs.Common.{◌≤◌, ◌+◌, vec_len, vec_capacity}
use Rattle.mc_seats.proofs.MemberWords.{members}
use Rattle.mc_seats.proofs.OpeningFacts.{IsOpening}
use Rattle.mc_seats.proofs.opening.open_all.Given as goal

abbrev pub invariant-loop-parts : goal.invariant-loop-parts
invariant-loop-parts g l = IsOpening (members g.K.Keeper g.K.Counted) g.K.Desk.Counted.faults l.fn.parts.items l.parts.items l.seats.items l.desks.items
    × (vec_len l.seats + vec_len l.parts ≤ vec_capacity l.seats) × (vec_len l.desks + vec_len l.parts ≤ vec_capacity l.desks) × (vec_len l.seats + vec_len l.parts ≤ vec_capacity l.parts)
    × (vec_len l.desks + vec_len l.parts ≤ vec_capacity l.counts)

abbrev pub decreases-loop-parts : goal.decreases-loop-parts
decreases-loop-parts g l = vec_len l.parts
