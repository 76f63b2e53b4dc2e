use Rattle.std.proofs.Common.{◌≡◌, ◌++◌, ap, ◌∙◌, arith}
use Rattle.mc_turn.specs.Lists.{times}
use Rattle.mc_turn.specs.Steps.{slots_of}
use Rattle.mc_turn.proofs.Lists.{times_append}
use Rattle.mc_turn.proofs.Steps.{join_step, look_step}
use Rattle.mc_turn.proofs.turn.Turn.join.Goals as goal

pub join_seat-requires : goal.join_seat-requires
join_seat-requires g c = (
  c.requires.own.0,
  c.requires.own.1,
  c.args.other.able.1 ∙ ap slots_of c.requires.idle,
  omega (arith, c.args.self.now.sized.0),
  join_step g.T.Story.list _ _ _ _ _ c.args.seat.now.able.0 c.requires.idle,
)

pub load-requires : goal.load-requires
load-requires g c = (c.join_seat.ensures.0 ∙ c.requires.own.0, omega (arith, c.args.self.now.sized.0), look_step g.T.Story.list _ _ _ _)

pub returns-clause-apart : goal.returns-clause-apart
returns-clause-apart g c p = let l = (c.load.ensures.2.3).once p in let v = c.args.seat.now.seat.me.0 in let w = c.args.other.seat.me.0 in
    let e : c.join_seat.new.seat.me.0.mine ≡ v.mine ++ w.mine = ap (λ m. m.0.mine) c.join_seat.ensures.2 in omega (arith, ap (times p) e, times_append p v.mine w.mine, l)
