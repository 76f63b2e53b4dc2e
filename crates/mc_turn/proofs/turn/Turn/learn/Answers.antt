use Rattle.std.proofs.Common.{◌≡◌, ap, ◌∙◌, arith}
use Rattle.mc_turn.proofs.Steps.{glimpse_is, join_step, learned_by, look_step}
use Rattle.mc_turn.proofs.turn.Turn.learn.Goals as goal

pub join_seat-requires : goal.join_seat-requires
join_seat-requires g c = (
  c.requires.own.0,
  c.into_seat-other.ensures.0 ∙ c.requires.own.1,
  c.into_seat-other.ensures.3,
  omega (arith, c.args.self.now.sized.0),
  join_step g.T.Story.list _ _ _ _ _ c.args.seat.now.able.0 (ap (λ v. v.held) (glimpse_is _ _ c.args.glimpse.one c.into_seat-other.ensures.2)),
)

pub load-requires : goal.load-requires
load-requires g c = (c.join_seat.ensures.0 ∙ c.requires.own.0, omega (arith, c.args.self.now.sized.0), look_step g.T.Story.list _ _ _ _)
