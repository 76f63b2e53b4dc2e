use Rattle.std.proofs.Common.{◌≢◌, ◌∷◌, [], ◌++◌, ◌∙◌, arith}
use Rattle.std.proofs.lemmas.List.Elements.{All-push}
use Rattle.mc_turn.proofs.Steps.{noted}
use Rattle.mc_turn.proofs.turn.Turn.take.Goals as goal

pub loop-preserved : goal.loop-preserved
loop-preserved g c = let word = c.in_default.field-0.word in let i = c.loop.invariant in let s = c.try_take.ensures.same in let t = c.in_default.ensures.busy in
    ((s.0 ∙ i.0.0, s.1 ∙ i.0.1), (i.1.0 ++ word ∷ [], All-push (λ x. x ≢ 0) _ _ i.1.1 (λ none. absurd (omega (arith, t.0, none))), noted _ _ _ i.1.0 word i.1.2 t.1))
