use Rattle.std.proofs.Common.{arith}
use Rattle.mc_turn.proofs.Steps.{glimpse_step}
use Rattle.mc_turn.proofs.turn.Turn.glimpse.Goals as goal

pub split_seat-other-requires : goal.split_seat-other-requires
split_seat-other-requires g c = (c.requires.own, omega (arith, c.args.self.now.sized.0), glimpse_step g.T.Story.list _ _ _)
