use Rattle.std.proofs.Common.{refl}
use Rattle.mc_drain.specs.Finds.{finds_by}
use Rattle.mc_core.proofs.Keeps.{still_on}
use Rattle.mc_drain.proofs.TurnFacts.{report_count}
use Rattle.mc_drain.proofs.WorkFacts.{alone_told, still_works}
use Rattle.mc_drain.proofs.working.work.Goals as goal

pub returns-in-Err-clause-leads : goal.returns-in-Err-clause-leads
returns-in-Err-clause-leads g c = still_works c.args.budget (finds_by (g.F.Fetch.offers c.args.fetch.now) (g.F.Fetch.leading c.args.fetch.now)) _ c.is_sound.ensures.state

pub returns-in-Err-clause-keeps : goal.returns-in-Err-clause-keeps
returns-in-Err-clause-keeps g c = still_on refl refl refl

pub returns-clause-leads : goal.returns-clause-leads
returns-clause-leads g c =
    alone_told c.in-Ok.report.processed c.args.budget (finds_by (g.F.Fetch.offers c.args.fetch.now) (g.F.Fetch.leading c.args.fetch.now)) c.finish_work.result _ _ (report_count _ _ _ _ c.in-Ok.report c.in-Ok.ensures.report) c.finish_work.ensures.leads

pub returns-clause-stopped : goal.returns-clause-stopped
returns-clause-stopped g c = (λ e. absurd (c.finish_work.ensures.runs e), λ up. absurd (c.in-Ok.ensures.stopped up))

pub returns-clause-still : goal.returns-clause-still
returns-clause-still g c = λ up. absurd (c.in-Ok.ensures.stopped up)
