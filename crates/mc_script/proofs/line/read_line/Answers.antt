use Rattle.mc_script.proofs.Utf8.{line_of-text, line_of-no_text}
use Rattle.mc_script.proofs.line.read_line.Goals as goal

pub returns-in-Ok-clause-ok : goal.returns-in-Ok-clause-ok
returns-in-Ok-clause-ok c = rw (line_of-text c.args.line.now c.in-Ok.ensures.cases.1, ← c.in-Ok.ensures.cases.0) c.read_text.ensures.ok

pub returns-in-Err-clause-bad : goal.returns-in-Err-clause-bad
returns-in-Err-clause-bad c = λ _. line_of-no_text c.args.line.now c.in-Err.ensures.cases.0
