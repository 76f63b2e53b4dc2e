-- What the lock of a shared face holds may cross to another thread where the keeper, its desks and the name of exactness may.
use denote.RattleType.{RattleType}
use denote.Param.Send.{IsSend, sendable}
use denote.Param.SendFields.{declared_send}
use Rattle.mc_base.specs.declared.counted.Counted as counted
use Rattle.mc_keep.specs.declared.keeper.Keeper as keeper
use Rattle.mc_face.specs.declared.exactness.Exactness as exactness
use Rattle.std.proofs.Crossing.{crosses}
use Rattle.mc_face.proofs.writer.FaceWriter.TheSendSync.{the_send as writer_send}
use Rattle.mc_node.proofs.node.NodeGlimpse.TheSendSync.{the_send as glimpse_send}
use Rattle.mc_shown.specs.contracts.showing.Showing as showing

module _ (K X Desk : RattleType) (k : keeper.Ghosts K.Denot Desk.Denot) (n : counted.Ghosts K.Denot) (d : counted.Ghosts Desk.Denot) (e : exactness.Ghosts X.Denot) where
  abbrev pub showing_row : RattleType
  showing_row = showing.the_row K X Desk k n d e

  pub showing_send : IsSend K → IsSend X → IsSend Desk → IsSend showing_row
  showing_send s x t = declared_send (showing.the_type K X Desk k n d e) (search (writer_send, crosses, sendable) depth 24, (search (glimpse_send, crosses, sendable) depth 24, tt))
