use Rattle.std.proofs.Common.{◌≡◌, None, length, vec_capacity}
use Rattle.mc_turn.specs.Seats.{IsSeatOf}
use Rattle.mc_worker.specs.Ends.{is_peer}
use Rattle.mc_node.specs.Entries.{StaysSealed}
use Rattle.mc_node.specs.Seats.{knows}
use Rattle.mc_pull.proofs.Hiring.{IsReleasing}
use Rattle.mc_pull.proofs.crew.hands.release.Given as goal

abbrev pub invariant-loop-hand : goal.invariant-loop-hand
invariant-loop-hand g l = IsReleasing l.fn.hands.items l.rest.rest.items l.fetches.items (vec_capacity l.fetches) l.failed (IsSeatOf l.node.turn l.seat.seat) (StaysSealed (knows l.fn.seat).seen (knows l.seat).seen)
    (λ hand. IsSeatOf l.node.turn hand.seat.seat.seat × (hand.seat.out ≡ None)) (λ hand. hand.fetch) (λ hand. hand.end) is_peer

abbrev pub decreases-loop-hand : goal.decreases-loop-hand
decreases-loop-hand g l = length l.rest.rest.items
