use Rattle.std.proofs.Common.{sym}
use Rattle.mc_seats.proofs.BeginFacts.{members}
use Rattle.mc_seats.proofs.PeerFacts.{ask_none, asks_unplanted, offered_planted}
use Rattle.mc_seats.proofs.peers.ask_peer.Goals as goal

pub returns-in-Ok-Some-clause-offer : goal.returns-in-Ok-Some-clause-offer
returns-in-Ok-Some-clause-offer g c = offered_planted (g.K.Keeper.told _) _ _ _ (rw c.in-Ok-Some.field-0-is at c.in-Ok-Some.ensures.same)

pub returns-in-Ok-Some-clause-desks : goal.returns-in-Ok-Some-clause-desks
returns-in-Ok-Some-clause-desks g c = ask_none (members g.K.Keeper g.K.Counted) g.K.Desk.Counted.faults _ _

pub returns-in-Ok-None-clause-offer : goal.returns-in-Ok-None-clause-offer
returns-in-Ok-None-clause-offer g c = asks_unplanted (g.K.Keeper.told _) _ _ _ (sym (rw c.in-Ok-None.field-0-is at c.in-Ok-None.ensures.same)) c.ask_desk.ensures.offer

pub returns-in-Err-clause-desks : goal.returns-in-Err-clause-desks
returns-in-Err-clause-desks g c = ask_none (members g.K.Keeper g.K.Counted) g.K.Desk.Counted.faults _ _
