use Rattle.std.proofs.Common.{rules, []}
use Rattle.mc_app.proofs.LineFacts.{ends_with_feed, ends_with_script, breaks_limit}
use Rattle.mc_app.proofs.line_reader.LineReader.next_line.Goals as goal

pub returns-then-not-branch-clause-line : goal.returns-then-not-branch-clause-line
returns-then-not-branch-clause-line g c = λ some. ends_with_script _ _ _ _ _ _ _ _ _ _ _ _ _ _ c.loop-self.invariant _ (search rules) (search rules) (search rules)

pub returns-in_err-take_piece-clause-too_long : goal.returns-in_err-take_piece-clause-too_long
returns-in_err-take_piece-clause-too_long g c = λ is. breaks_limit _ _ _ _ _ [] _ _ _ _ _ _ _ _ c.loop-self.invariant _ _ c.fill.ensures.kept (search rules) (search rules)

pub returns-then-branch-clause-line : goal.returns-then-branch-clause-line
returns-then-branch-clause-line g c = λ _. ends_with_feed _ _ _ _ _ _ _ _ _ _ _ _ _ _ c.loop-self.invariant _ _ _ c.fill.ensures.kept (search rules) (search rules) (search rules)
