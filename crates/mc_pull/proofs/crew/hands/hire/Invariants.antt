use Rattle.std.proofs.Common.{◌≡◌, true, length, vec_capacity}
use Rattle.mc_fetch.specs.Fits.{FetchFits}
use Rattle.mc_fetch.specs.Offers.{found_by}
use Rattle.mc_turn.specs.Seats.{IsSeatOf}
use Rattle.mc_node.specs.Entries.{is_sealed_log}
use Rattle.mc_node.specs.Seats.{knows}
use Rattle.mc_node.specs.Works.{IsUnder}
use Rattle.mc_pull.specs.Hands.{IsHired}
use Rattle.mc_pull.proofs.Hiring.{IsHiring}
use Rattle.mc_pull.proofs.crew.hands.hire.Given as goal

abbrev pub invariant-loop-fetch : goal.invariant-loop-fetch
invariant-loop-fetch g l = IsHiring l.fn.fetches.items l.rest.rest.items l.hands.items (vec_capacity l.hands) (knows l.seat).parts (knows l.fn.seat).seen (knows l.seat).seen (IsSeatOf l.node.turn l.seat.seat)
    (λ f. FetchFits g.J.Naming.found g.J.Naming.kept (found_by (g.F.Fetch.offers f)))
    (λ hand. IsHired (IsSeatOf l.node.turn hand.seat.seat.seat) (IsUnder g.J.Naming.most hand.seat.limit) (is_sealed_log (knows hand.seat.seat).seen ≡ true) hand.seat.out (FetchFits g.J.Naming.found g.J.Naming.kept (found_by (g.F.Fetch.offers hand.fetch))))
    (λ hand. hand.fetch)

abbrev pub decreases-loop-fetch : goal.decreases-loop-fetch
decreases-loop-fetch g l = length l.rest.rest.items
