use Rattle.std.proofs.Common.{◌∙◌, ◌||◌, Bool, ap, sym, subst}
use Rattle.mc_fetch.specs.Frame.{AsksAt}
use Rattle.mc_drain.specs.Finds.{finds_by}
use Rattle.mc_core.specs.Words.{ContinuesAt}
use Rattle.mc_drain.proofs.WorkFacts.{leaves_shown, queue_shown}
use Rattle.mc_drain.proofs.RepairAnswers.{repair_keeper, repair_peer, repair_runs, repair_wants}
use Rattle.mc_drain.proofs.RepairFacts.{finish_repair_told}
use Rattle.mc_drain.proofs.ReachFacts.{may_reach}
use Rattle.mc_queue.specs.Views.{shown}
use Rattle.mc_drain.proofs.repairing.finish_repair.Goals as goal

pub returns-clause-leads : goal.returns-clause-leads
returns-clause-leads g c =
    let laws = c.found_drains_go_on.ensures in
    let repairs = c.found_repairs_go_on.ensures in
    finish_repair_told laws.begins repairs.begins repairs.joins repairs.whole laws.closed c.parts_stay_right.ensures.drained c.drain-end.result c.args.budget c.saturating_add-limit.result c.args.before (finds_by (g.F.Fetch.offers c.args.fetch.now) (g.F.Fetch.leading c.args.fetch.now)) (shown c.drain-end.new.replica.queue)
    c.answer.result _ _ c.saturating_add-limit.ensures c.answer.ensures
    (leaves_shown c.drain-end.result _ _ _ _ (λ e. c.drain-end.ensures.keeps.stops ∙ ap (λ (b : Bool). b || c.args.replica.now.stopped) e ∙ c.requires.runs) c.is_sound.ensures.state c.drain-end.ensures.flight c.drain-end.ensures.idle)
    (may_reach c.clean_replicas_are_reached.ensures.reached c.kept_is_durable.ensures.back _ _ _ c.is_sound.ensures.kept)
    c.drain-end.ensures.leads c.drain-end.ensures.lost (queue_shown c.drain-end.result _ _ _ _ (λ e. c.drain-end.ensures.keeps.stops ∙ ap (λ (b : Bool). b || c.args.replica.now.stopped) e ∙ c.requires.runs))

pub returns-clause-keeps : goal.returns-clause-keeps
returns-clause-keeps g c =
    subst (λ (b : Bool). ContinuesAt g.K.Keeper.told g.K.Keeper.fuse g.K.Keeper.own g.K.Counted.faults g.K.Keeper.quiet g.K.Keeper.schedule b c.args.replica.now c.drain-end.new.replica) (sym (repair_keeper _ _ _ _ c.answer.ensures)) c.drain-end.ensures.keeps

pub returns-clause-asks : goal.returns-clause-asks
returns-clause-asks g c =
    subst (λ (b : Bool). AsksAt g.F.Fetch.offers g.F.Fetch.leading g.F.Fetch.places g.F.Fetch.quiet g.F.Counted.faults g.F.Fetch.follows b c.args.fetch.now c.drain-end.new.fetch) (sym (repair_peer _ _ _ _ c.answer.ensures)) c.drain-end.ensures.asks

pub returns-clause-runs : goal.returns-clause-runs
returns-clause-runs g c = repair_runs _ _ _ _ c.answer.ensures

pub returns-clause-wants : goal.returns-clause-wants
returns-clause-wants g c = repair_wants _ _ _ _ _ c.answer.ensures c.drain-end.ensures.flight c.drain-end.ensures.idle c.drain-end.ensures.spent
