use Rattle.mc_shown.proofs.NameFacts.{face_on, node_on}
use Rattle.mc_shown.proofs.shared.SharedFace.join.Goals as goal

pub returns-clause-same : goal.returns-clause-same
returns-clause-same g c = (face_on _ _ c.args.seat.now.named c.join.ensures.one.0, node_on _ _ c.args.seat.now.named c.join.ensures.one.0)
