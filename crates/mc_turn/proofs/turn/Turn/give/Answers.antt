use Rattle.std.proofs.Common.{◌≡◌, ◌∷◌, [], Some, sym, ap, ◌∙◌, arith}
use Rattle.atomic_table.specs.Table.{rest}
use Rattle.mc_turn.specs.Steps.{slots_of}
use Rattle.mc_turn.proofs.Steps.{publish_step, release_step, extends_some}
use Rattle.mc_turn.proofs.turn.Turn.give.Goals as goal

pub store-requires : goal.store-requires
store-requires g c = let t = extends_some c.args.seat.now.seat.me.0.held _ c.requires.extends in let x = c.args.held.value in let e = c.exchange-before.ensures in
    let out : c.exchange-before.new.seat.me.1 ≡ (0, Some x) ∷ [] = ap (λ m. m.1) e.3 ∙ ap (λ l. (0, Some x) ∷ rest l) (c.args.seat.now.able.1 ∙ ap slots_of t.1) in (
      e.0 ∙ c.requires.own,
      omega (arith, c.args.self.now.sized.0),
      publish_step g.T.Story.list _ _ _ _ t.0 x _ c.length-length.ensures (ap (λ m. m.0.held) e.3 ∙ t.1) out t.2 (omega (arith, c.args.seat.now.able.0, ap (λ m. m.0.parts) e.3)),
    )

pub store-requires-2 : goal.store-requires-2
store-requires-2 g c = let t = extends_some c.args.seat.now.seat.me.0.held _ c.requires.extends in let x = c.args.held.value in let e = c.exchange-before.ensures in
    let out : c.exchange-before.new.seat.me.1 ≡ (0, Some x) ∷ [] = ap (λ m. m.1) e.3 ∙ ap (λ l. (0, Some x) ∷ rest l) (c.args.seat.now.able.1 ∙ ap slots_of t.1) in
    let p = c.store.ensures.2 t.0 x (ap (λ m. m.0.held) e.3 ∙ t.1) out in (
      c.store.ensures.0 ∙ (e.0 ∙ c.requires.own),
      omega (arith, c.args.self.now.sized.0),
      release_step g.T.Story.list _ _ _ _ x (omega (arith, c.args.seat.now.able.0, ap (λ m. m.0.parts) e.3, ap (λ m. m.0.parts) p)) (ap (λ m. m.0.held) p) (ap (λ m. m.1) p ∙ out),
    )

pub invariant_of-seat : goal.invariant_of-seat
invariant_of-seat g c = let t = extends_some c.args.seat.now.seat.me.0.held _ c.requires.extends in let x = c.args.held.value in let e = c.exchange-before.ensures in
    let out : c.exchange-before.new.seat.me.1 ≡ (0, Some x) ∷ [] = ap (λ m. m.1) e.3 ∙ ap (λ l. (0, Some x) ∷ rest l) (c.args.seat.now.able.1 ∙ ap slots_of t.1) in
    let p = c.store.ensures.2 t.0 x (ap (λ m. m.0.held) e.3 ∙ t.1) out in let q = c.store-2.ensures.2 (g.T.Story.list x) (ap (λ m. m.0.held) p) in
    record { able = (omega (arith, c.args.seat.now.able.0, ap (λ m. m.0.parts) e.3, ap (λ m. m.0.parts) p, ap (λ m. m.0.parts) q), ap (λ m. m.1) q ∙ sym (ap (λ m. slots_of m.0.held) q)) }
