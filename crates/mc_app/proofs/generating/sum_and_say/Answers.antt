use Rattle.mc_app.proofs.GeneratingFacts.{said_bad, said_whole}
use Rattle.mc_app.proofs.RunFacts.{keeps_same}
use Rattle.mc_app.proofs.generating.sum_and_say.Goals as goal

pub returns-in-Whole-clause-generated : goal.returns-in-Whole-clause-generated
returns-in-Whole-clause-generated g c =
    let summed = c.in-Whole.ensures.sums _ c.new-summary.ensures in said_whole _ _ _ _ _ _ _ _ summed.0 (c.say.ensures.says _ _ summed.1)

pub returns-in-Bad-clause-generated : goal.returns-in-Bad-clause-generated
returns-in-Bad-clause-generated g c =
    let bad = c.in-Bad.ensures.sums _ c.new-summary.ensures in said_bad _ _ _ _ _ _ _ _ _ bad c.refuse.ensures.refuses

pub returns-in-Short-clause-generated : goal.returns-in-Short-clause-generated
returns-in-Short-clause-generated g c = (c.in-Short.ensures.sums _ c.new-summary.ensures, keeps_same _)
