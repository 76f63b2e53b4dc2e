-- What workers share may cross to other threads where its keeper and the keeper's desks may.
use denote.RattleType.{RattleType}
use denote.Param.Send.{IsSend, sendable}
use denote.Param.SendFields.{declared_send}
use Rattle.mc_base.specs.declared.counted.Counted as counted
use Rattle.mc_fetch.specs.declared.naming.Naming as naming
use Rattle.mc_keep.specs.declared.keeper.Keeper as keeper
use Rattle.std.below.std_alloc.proofs.vec.Vec.TheSendSync.{the_send as vec_send}
use Rattle.std.proofs.Crossing.{crosses, frees}
use Rattle.std.proofs.option.Option.TheSendSync.{the_send as option_send}
use Rattle.mc_relay.proofs.posts.TakerEnd.TheSendSync.{the_send as taker_send}
use Rattle.mc_core.proofs.replica.Replica.TheSendSync.{the_send as replica_send}
use Rattle.mc_node.specs.contracts.entry.Entry as entry
use Rattle.mc_node.specs.contracts.stored.Stored as stored

module _ (K J Desk : RattleType) (k : keeper.Ghosts K.Denot Desk.Denot) (n : counted.Ghosts K.Denot) (d : counted.Ghosts Desk.Denot) (j : naming.Ghosts J.Denot) where
  abbrev pub stored_row : RattleType
  stored_row = stored.the_row K J Desk k n d j

  entry_send : IsSend K → IsSend Desk → IsSend (entry.the_row K Desk k n d)
  entry_send s t = declared_send (entry.the_type K Desk k n d) (search sendable depth 12, (search sendable depth 12, tt))

  pub stored_send : IsSend K → IsSend J → IsSend Desk → IsSend stored_row
  stored_send s u t = declared_send (stored.the_type K J Desk k n d j) (search (replica_send, crosses, sendable) depth 24, (search (vec_send, entry_send, frees, sendable) depth 12, (search (option_send, taker_send, sendable) depth 12, (search sendable depth 12, tt))))
