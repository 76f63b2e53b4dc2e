use Rattle.std.proofs.Common.{◌∷◌, Some, sym, ap, ◌∙◌, arith}
use Rattle.atomic_table.specs.Table.{rest}
use Rattle.mc_turn.proofs.Steps.{try_step}
use Rattle.mc_turn.proofs.turn.Turn.try_take.Goals as goal

pub compare_exchange-word-requires : goal.compare_exchange-word-requires
compare_exchange-word-requires g c = (c.requires.own, omega (arith, c.args.self.now.sized.0), try_step g.T.Story.list _ _ _ _ c.args.seat.now.able.0)

pub exchange-requires : goal.exchange-requires
exchange-requires g c = let t = c.compare_exchange-word.ensures.2.0 c.if-word-ne0.false in
    (c.compare_exchange-word.ensures.0 ∙ c.requires.own, (Some t.0, t.1 ∙ ap (λ l. (0, Some t.0) ∷ l) (sym (ap rest t.1))))
