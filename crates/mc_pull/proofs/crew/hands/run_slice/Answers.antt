use denote.Param.Send.{sendable}
use Rattle.std.proofs.Crossing.{crosses}
use Rattle.mc_node.proofs.node.Node.TheSendSync.{the_sync as node_sync}
use Rattle.mc_node.proofs.hired.Hired.TheSendSync.{the_send as hired_send}
use Rattle.mc_pull.proofs.Crossing.{stored_send}
use Rattle.mc_pull.proofs.Left.{zip_by, zip_length}
use Rattle.mc_pull.proofs.crew.hands.run_slice.Goals as goal

pub run_workers-requires-send-S-Seat : goal.run_workers-requires-send-S-Seat
run_workers-requires-send-S-Seat g c κs within = search (hired_send, stored_send, crosses, c.type_bounds, sendable) depth 24

pub run_workers-requires-sync-S : goal.run_workers-requires-sync-S
run_workers-requires-sync-S g c κs within = search (node_sync, stored_send, crosses, c.type_bounds, sendable) depth 24

pub run_workers-requires-clause-ready : goal.run_workers-requires-clause-ready
run_workers-requires-clause-ready g c κs within = λ k d less. let ready = c.requires.ready k d less in record { own = (ready.own, ready.under, ready.sealed); idle = ready.idle; fits = ready.fits }

pub returns-clause-length : goal.returns-clause-length
returns-clause-length g c = zip_length _ _ _ c.run_workers.ensures.worked

pub returns-clause-ran : goal.returns-clause-ran
returns-clause-ran g c = zip_by _ _ c.run_workers.ensures.worked (λ old new r. record { own = r.own.0; idle = r.idle; asked = r.asked })
