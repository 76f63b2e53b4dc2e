use Rattle.std.proofs.Common.{◌≡◌, Some, sym, ap, ◌∙◌, subst, IsSome, refl}
use mathlib.Core.Option.{some, some-injective}
use Rattle.mc_turn.specs.Views.{IsTaken}
use Rattle.mc_turn.proofs.Steps.{ends, one_some}
use Rattle.mc_turn.proofs.turn.Turn.close.Goals as goal

pub unwrap-value-requires : goal.unwrap-value-requires
unwrap-value-requires g c = let e = ends g.T.Story.list _ _ _ _ _ c.close_with-closed.ensures.values.2 (c.word.ensures ∙ ap some c.if-word-ne0.false) in
    let is : c.take.result ≡ Some e.0 = some-injective _ _ (sym c.take.ensures.value ∙ e.1) in subst IsSome (sym is) refl

pub returns : goal.returns
returns g c = let e = ends g.T.Story.list _ _ _ _ _ c.close_with-closed.ensures.values.2 (c.word.ensures ∙ ap some c.if-word-ne0.false) in
    let is : c.take.result ≡ Some e.0 = some-injective _ _ (sym c.take.ensures.value ∙ e.1) in
    record { taken = subst (λ x. IsTaken c.args.seat.seat.me.0 (g.T.Story.list x)) (one_some c.take.result e.0 c.unwrap-value.result is c.unwrap-value.ensures) e.2 }
