use Rattle.std.proofs.Common.{rules, inl, inr}
use Rattle.mc_app.proofs.LineFacts.{too_long-open, too_long-at}
use Rattle.mc_app.proofs.line_reader.take_piece.Goals as goal
use Rattle.mc_app.proofs.line_reader.take_piece.Goals.{then-count-len-via-then-count-len, then-count-len-via-else-count-len+then-len-count, then-at-len-via-then-at-len, then-at-len-via-else-at-len+then-len-at}

pub returns-then-count-len-clause-too_long : goal.returns-then-count-len-clause-too_long
returns-then-count-len-clause-too_long c = λ _ no_feed. too_long-open _ _ _ no_feed (search rules) (elim c.then-count-len.branch [ then-count-len-via-then-count-len w ↦ inr (search rules) | then-count-len-via-else-count-len+then-len-count w ↦ inl (search rules) ])

pub returns-then-at-len-clause-too_long : goal.returns-then-at-len-clause-too_long
returns-then-at-len-clause-too_long c = λ _ no_feed. too_long-at _ _ _ c.in-Some.at no_feed (search rules) (elim c.then-at-len.branch [ then-at-len-via-then-at-len w ↦ inr (search rules) | then-at-len-via-else-at-len+then-len-at w ↦ inl (search rules) ])
