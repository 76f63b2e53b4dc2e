use Rattle.std.proofs.Common.{false, ap}
use Rattle.mc_core.proofs.Keeps.{continues_more}
use Rattle.mc_drain.specs.Leads.{Always}
use Rattle.mc_drain.proofs.TurnFacts.{quiet_told}
use Rattle.mc_model.specs.Wanted.{Queue}
use Rattle.mc_drain.proofs.draining.restart.Goals as goal

pub returns-clause-leads : goal.returns-clause-leads
returns-clause-leads g c = quiet_told false Always _ _ _ c.recall.ensures.leads c.requeue.ensures.leads

pub returns-clause-keeps : goal.returns-clause-keeps
returns-clause-keeps g c = continues_more c.recall.ensures.keeps c.requeue.ensures.keeps

pub returns-clause-freed : goal.returns-clause-freed
returns-clause-freed g c = (ap (λ (q : Queue). q.missing) c.requeue.ensures.wants, ap (λ (q : Queue). q.bad) c.requeue.ensures.wants)
