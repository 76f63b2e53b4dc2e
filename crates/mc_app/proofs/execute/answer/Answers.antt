use Rattle.mc_app.proofs.ExecuteFacts.{executes, executes_part}
use Rattle.mc_app.proofs.execute.answer.Goals as goal

pub returns-clause-ok : goal.returns-clause-ok
returns-clause-ok g c = executes c.in-Ok.ensures.answered _ _ _ c.write_answer.ensures.ok

pub returns-clause-failed : goal.returns-clause-failed
returns-clause-failed g c = λ failed. executes_part c.in-Ok.ensures.answered _ _ (c.write_answer.ensures.failed failed)
