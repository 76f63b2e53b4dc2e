use denote.Param.{param}
use denote.Param.Send.{IsSend, IsSync, sendable, param_sync}
use contract.Lifetimes.{Lfts}
use Rattle.std.proofs.Crossing.{crosses}
use Rattle.mc_node.proofs.node.Node.TheSendSync.{the_sync as node_sync}
use Rattle.mc_writers.proofs.writing.Writer.TheSendSync.{the_send as writer_send}
use Rattle.mc_node.proofs.Crossing.{stored_send}
use Rattle.mc_writers.proofs.crews.write_slice.Given.{Over}
use Rattle.mc_writers.proofs.crews.write_slice.Lts.{arg-0-2}
use Rattle.mc_writers.proofs.crews.write_slice.Goals as goal

shared : (g : Over) (κs : Lfts 10) → IsSend (param 0 g.row.K) → IsSend (param 3 g.row.K-Desk) → IsSync (param 2 g.row.W)
    → IsSync (arg-0-2 g.row.K g.row.T g.row.W g.row.K-Desk g.K.laws g.T.laws g.W.laws g.K.Desk.laws g.K.Keeper g.K.Keeper-dict g.K.Counted g.K.Counted-dict g.K.Desk.Counted g.K.Desk.Counted-dict g.T.Threads g.T.Threads-dict g.W.Wait g.W.Wait-dict κs)
shared g κs k d w = search (node_sync, stored_send, crosses, sendable) depth 24

pub for_each_mut-requires-send-T : goal.for_each_mut-requires-send-T
for_each_mut-requires-send-T g c κs within = search (writer_send, stored_send, c.type_bounds, sendable) depth 24

pub for_each_mut-requires-sync-F : goal.for_each_mut-requires-sync-F
for_each_mut-requires-sync-F g c κs within =
    param_sync 2 _ (shared g κs (search (c.type_bounds, sendable) depth 8) (search (c.type_bounds, sendable) depth 8) (search (c.type_bounds, sendable) depth 8))
