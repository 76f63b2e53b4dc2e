use Rattle.std.proofs.Common.{◌∙◌, Bool, ap, false, sym, subst, refl}
use Rattle.mc_model.specs.Wanted.{Queue}
use Rattle.mc_queue.specs.Views.{shown}
use Rattle.mc_core.specs.Words.{ContinuesAt}
use Rattle.mc_core.proofs.Keeps.{continues_more, still_on}
use Rattle.mc_drain.specs.Words.{is_keeper}
use Rattle.mc_drain.proofs.TurnFacts.{report_count}
use Rattle.mc_drain.proofs.WorkFacts.{not_true}
use Rattle.mc_drain.proofs.RepairAnswers.{cut_keeper, cut_peer, cut_runs, cut_walks, cut_wants}
use Rattle.mc_drain.proofs.RepairFacts.{cut_each, nothing_walked, repairs_still, walked_shown, walked_told}
use Rattle.mc_drain.proofs.repairing.begin_repair.Goals as goal

pub returns-in-Err-clause-leads : goal.returns-in-Err-clause-leads
returns-in-Err-clause-leads g c = repairs_still _ c.is_sound.ensures.state

pub returns-in-Err-clause-keeps : goal.returns-in-Err-clause-keeps
returns-in-Err-clause-keeps g c = still_on refl refl refl

pub returns-in-Some-clause-walks : goal.returns-in-Some-clause-walks
returns-in-Some-clause-walks g c = nothing_walked (is_keeper c.in-Some.end) _ _ _ c.recall.ensures.leads c.in-Some.ensures.walks

pub returns-in-Some-clause-leads : goal.returns-in-Some-clause-leads
returns-in-Some-clause-leads g c =
    let laws = c.found_drains_go_on.ensures in
    let repairs = c.found_repairs_go_on.ensures in
    cut_each laws.begins repairs.begins repairs.joins repairs.whole c.in-Some.end c.error_of.result _ _ _ c.error_of.ensures c.in-Some.ensures.broken c.is_sound.ensures.state c.is_sound-2.ensures.state c.is_sound-in-Some.ensures.state
    c.recall.ensures.leads c.in-Some.ensures.walks

pub returns-in-Some-clause-keeps : goal.returns-in-Some-clause-keeps
returns-in-Some-clause-keeps g c =
    subst (λ (b : Bool). ContinuesAt g.K.Keeper.told g.K.Keeper.fuse g.K.Keeper.own g.K.Counted.faults g.K.Keeper.quiet g.K.Keeper.schedule b c.args.replica.now c.walk.new.replica) (sym (cut_keeper c.in-Some.end _ c.error_of.ensures))
    (continues_more c.recall.ensures.keeps c.in-Some.ensures.keeps)

pub returns-in-Some-clause-walked : goal.returns-in-Some-clause-walked
returns-in-Some-clause-walked g c = cut_walks c.in-Some.end _ c.error_of.ensures c.in-Some.ensures.broken

pub returns-in-Some-clause-peers : goal.returns-in-Some-clause-peers
returns-in-Some-clause-peers g c = cut_peer c.in-Some.end _ c.error_of.ensures

pub returns-in-Some-clause-stopped : goal.returns-in-Some-clause-stopped
returns-in-Some-clause-stopped g c = (λ e. absurd (cut_runs c.in-Some.end _ c.error_of.ensures e), λ up. absurd (c.in-Ok.ensures.stopped up))

pub returns-in-Some-clause-still : goal.returns-in-Some-clause-still
returns-in-Some-clause-still g c = λ up. absurd (c.in-Ok.ensures.stopped up)

pub returns-in-Some-clause-wants : goal.returns-in-Some-clause-wants
returns-in-Some-clause-wants g c = cut_wants c.in-Some.end _ (shown c.walk.new.replica.queue) c.error_of.ensures (c.in-Some.ensures.flight ∙ ap (λ (q : Queue). q.flight) c.recall.ensures.wants)

pub returns-in-None-clause-walks : goal.returns-in-None-clause-walks
returns-in-None-clause-walks g c =
    let laws = c.found_drains_go_on.ensures in
    let repairs = c.found_repairs_go_on.ensures in
    let up = not_true _ c.in-Ok.ensures.stopped in
    let up_r = c.recall.ensures.keeps.stops ∙ up in
    walked_told laws.begins repairs.begins repairs.joins repairs.whole c.in-Ok.report.processed _ _ _ (report_count _ _ _ _ c.in-Ok.report c.in-Ok.ensures.report) c.is_sound.ensures.state c.is_sound-2.ensures.state
    (walked_shown _ _ _ _ (c.in-None.ensures.keeps.stops ∙ up_r) (c.in-None.ensures.whole refl) c.is_sound-in-None.ensures.state) c.recall.ensures.leads c.in-None.ensures.walks

pub returns-in-None-clause-leads : goal.returns-in-None-clause-leads
returns-in-None-clause-leads g c = nothing_walked false _ _ _ c.recall.ensures.leads c.in-None.ensures.walks

pub returns-in-None-clause-keeps : goal.returns-in-None-clause-keeps
returns-in-None-clause-keeps g c = continues_more c.recall.ensures.keeps c.in-None.ensures.keeps

pub returns-in-None-clause-stopped : goal.returns-in-None-clause-stopped
returns-in-None-clause-stopped g c = (λ e. absurd (cc e), λ up. absurd (c.in-Ok.ensures.stopped up))

pub returns-in-None-clause-still : goal.returns-in-None-clause-still
returns-in-None-clause-still g c = λ up. absurd (c.in-Ok.ensures.stopped up)
