use Rattle.mc_drain.specs.Finds.{finds_by}
use Rattle.mc_core.proofs.Keeps.{continues_more}
use Rattle.mc_drain.proofs.RepairFacts.{repair_alone_told, unwalked_told}
use Rattle.mc_drain.proofs.repairing.repair.Goals as goal

pub returns-in-Ok-clause-leads : goal.returns-in-Ok-clause-leads
returns-in-Ok-clause-leads g c = repair_alone_told c.in-Ok.before c.args.budget (finds_by (g.F.Fetch.offers c.args.fetch.now) (g.F.Fetch.leading c.args.fetch.now)) c.finish_repair.result _ _ _ c.in-Ok.ensures.walks c.finish_repair.ensures.leads

pub returns-in-Ok-clause-keeps : goal.returns-in-Ok-clause-keeps
returns-in-Ok-clause-keeps g c = continues_more c.in-Ok.ensures.keeps c.finish_repair.ensures.keeps

pub returns-in-Err-clause-leads : goal.returns-in-Err-clause-leads
returns-in-Err-clause-leads g c = unwalked_told c.args.budget (finds_by (g.F.Fetch.offers c.args.fetch.now) (g.F.Fetch.leading c.args.fetch.now)) c.in-Err.error _ _ c.in-Err.ensures.leads
