use Rattle.mc_seats.proofs.BeginFacts.{members}
use Rattle.mc_seats.proofs.PeerFacts.{IsAsking}
use Rattle.mc_seats.proofs.peers.find_among.Given as goal

abbrev pub invariant-loop-at : goal.invariant-loop-at
invariant-loop-at g l = IsAsking (members g.K.Keeper g.K.Counted) g.K.Desk.Counted.faults l.down l.r l.cid l.seats l.fn.desks.items l.desks.items l.at
