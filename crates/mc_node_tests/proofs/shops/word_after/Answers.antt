use denote.Param.{param}
use denote.Param.Send.{IsSend, IsSync, sendable}
use contract.Lifetimes.{Lfts}
use Rattle.std.proofs.Crossing.{crosses}
use Rattle.mc_node.proofs.Crossing.{stored_send}
use Rattle.mc_node.proofs.node.Node.TheSendSync.{the_sync as node_sync}
use Rattle.mc_node.proofs.node.NodeSeat.TheSendSync.{the_send as seat_send}
use Rattle.mc_node_tests.proofs.shops.word_after.Given.{Over}
use Rattle.mc_node_tests.proofs.shops.word_after.Lts.{arg-11-1}
use Rattle.mc_node_tests.proofs.shops.word_after.Goals as goal

sent : (g : Over) (κs : Lfts 13) → IsSend (param 0 g.row.K) → IsSend (param 2 g.row.K-Desk) → IsSync (param 1 g.row.R)
    → IsSend (arg-11-1 g.row.K g.row.R g.row.K-Desk g.K.laws g.R.laws g.K.Desk.laws g.K.Keeper g.K.Keeper-dict g.K.Counted g.K.Counted-dict g.K.Desk.Counted g.K.Desk.Counted-dict g.R.Threads g.R.Threads-dict g.R.Wait g.R.Wait-dict g.K.Destruct-dict κs)
sent g κs k d r = search (node_sync, seat_send, stored_send, crosses, sendable) depth 24

pub join-first-requires-send-F : goal.join-first-requires-send-F
join-first-requires-send-F g c κs within = search (sent, c.type_bounds, sendable) depth 8

pub join-first-requires-send-A : goal.join-first-requires-send-A
join-first-requires-send-A g c κs within = search (seat_send, stored_send, crosses, c.type_bounds, sendable) depth 24
