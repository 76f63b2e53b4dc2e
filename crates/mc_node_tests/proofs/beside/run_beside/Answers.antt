use denote.Param.{param}
use denote.Param.Send.{IsSend, IsSync, param_send, sendable}
use Rattle.std.proofs.Crossing.{crosses}
use Rattle.mc_node.proofs.Crossing.{stored_send}
use Rattle.mc_node.proofs.node.Node.TheSendSync.{the_sync as node_sync}
use Rattle.mc_node.proofs.node.NodeSeat.TheSendSync.{the_send as seat_send}
use Rattle.mc_shown.proofs.Crossing.{showing_send}
use Rattle.mc_shown.proofs.seat.FaceSeat.TheSendSync.{the_send as face_seat_send}
use Rattle.mc_shown.proofs.shared.SharedFace.TheSendSync.{the_sync as face_sync}
use Rattle.mc_node_tests.proofs.beside.run_beside.Given.{Over}
use Rattle.mc_node_tests.proofs.beside.run_beside.Lts.{arg-0-1}
use Rattle.mc_node_tests.proofs.beside.run_beside.Goals as goal

sent : (g : Over) (κs : _) → IsSend (param 0 g.row.K) → IsSend (param 2 g.row.K-Desk) → IsSync (param 1 g.row.R)
    → IsSend (arg-0-1 g.row.K g.row.R g.row.K-Desk g.K.laws g.R.laws g.K.Desk.laws g.K.Keeper g.K.Keeper-dict g.K.Counted g.K.Counted-dict g.K.Desk.Counted g.K.Desk.Counted-dict g.R.Threads g.R.Threads-dict g.R.Wait g.R.Wait-dict κs)
sent g κs k d r = search (node_sync, seat_send, stored_send, face_sync, face_seat_send, showing_send, crosses, sendable) depth 24

pub join_mut-written-requires-send-F : goal.join_mut-written-requires-send-F
join_mut-written-requires-send-F g c κs within =
    param_send 1 _ (sent g κs (search (c.type_bounds, sendable) depth 8) (search (c.type_bounds, sendable) depth 8) (search (c.type_bounds, sendable) depth 8))
