use Rattle.mc_turn.proofs.Steps.{opens_as}
use Rattle.mc_turn.proofs.turn.Turn.new.Goals as goal

pub new-requires : goal.new-requires
new-requires g c = opens_as g.T.Story.list c.args.value _ _ _ c.of-about.ensures c.length-length.ensures c.in_ok-slots.ensures.ok
