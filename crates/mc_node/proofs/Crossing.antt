-- What a node holds may cross to another thread where its keeper and the keeper's desks may.
use denote.RattleType.{RattleType}
use denote.Param.Send.{IsSend, sendable}
use denote.Param.SendFields.{declared_send}
use Rattle.mc_base.specs.declared.counted.Counted as counted
use Rattle.mc_keep.specs.declared.keeper.Keeper as keeper
use Rattle.mc_fetch.specs.contracts.naming.BrandNaming.TheImpl as naming
use Rattle.std.specs.contracts.marker.Brand as brand
use Rattle.std.below.std_alloc.proofs.vec.Vec.TheSendSync.{the_send as vec_send}
use Rattle.std.proofs.Crossing.{crosses, frees}
use Rattle.mc_relay.proofs.posts.TakerEnd.TheSendSync.{the_send as taker_send}
use Rattle.mc_node.proofs.note.Note.TheSendSync.{the_send as note_send}
use Rattle.mc_core.proofs.replica.Replica.TheSendSync.{the_send as replica_send}
use Rattle.mc_node.specs.contracts.entry.Entry as entry
use Rattle.mc_node.specs.contracts.stored.Stored as stored

module _ (K Desk : RattleType) (k : keeper.Ghosts K.Denot Desk.Denot) (n : counted.Ghosts K.Denot) (d : counted.Ghosts Desk.Denot) where
  abbrev pub stored_row : RattleType
  stored_row = stored.the_row K brand.the_row Desk k n d naming.ghosts

  entry_send : IsSend K → IsSend Desk → IsSend (entry.the_row K Desk k n d)
  entry_send s t = declared_send (entry.the_type K Desk k n d) (search (note_send, sendable) depth 12, (search sendable depth 12, tt))

  pub stored_send : IsSend K → IsSend Desk → IsSend stored_row
  stored_send s t = declared_send (stored.the_type K brand.the_row Desk k n d naming.ghosts) (search (replica_send, crosses, sendable) depth 24, (search (vec_send, entry_send, frees, sendable) depth 12, (search (taker_send, crosses, sendable) depth 24, (search sendable depth 12, tt))))
