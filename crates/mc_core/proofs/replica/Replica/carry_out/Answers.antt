use Rattle.std.proofs.Common.{◌∙◌, sym}
use Rattle.mc_plan.proofs.UptakeFacts.{told_stores, told_known}
use Rattle.mc_core.proofs.replica.Replica.carry_out.Goals as goal

pub commit_both-requires-clause-ready : goal.commit_both-requires-clause-ready
commit_both-requires-clause-ready g c =
    told_stores c.changes_fit.ensures.process c.commits_are_events.ensures.sound c.kept_changes_are_events.ensures.mark c.kept_is_durable.ensures.some_links c.changes_fit.ensures.store c.changes_fit.ensures.stored c.changes_fit.ensures.same
    _ _ c.args.uptake _ (sym c.into_changes.ensures ∙ c.in-Some.is) c.is_sound.ensures c.requires.uptake

pub commit_process-requires-clause-ready : goal.commit_process-requires-clause-ready
commit_process-requires-clause-ready g c =
    told_known c.changes_fit.ensures.process c.commits_are_events.ensures.sound c.kept_changes_are_events.ensures.mark c.kept_is_durable.ensures.some_links c.changes_fit.ensures.store c.changes_fit.ensures.stored c.changes_fit.ensures.same
    _ _ c.args.uptake (sym c.into_changes.ensures ∙ c.in-None.is) c.is_sound.ensures c.requires.uptake
