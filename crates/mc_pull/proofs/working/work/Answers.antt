use Rattle.std.proofs.Common.{◌∙◌, Result, ap, refl, sym}
use Rattle.mc_drain.specs.declared.working.Worked.{Worked}
use Rattle.mc_drain.specs.Works.{none_broke, peer_broke}
use Rattle.mc_drain.specs.declared.working.WorkError.{WorkError}
use Rattle.mc_pull.specs.Pulls.{finds_at}
use Rattle.mc_pull.specs.Shows.{all_show}
use Rattle.mc_pull.proofs.AnswerFacts.{peer_shows, work_told}
use Rattle.mc_pull.proofs.CalmFacts.{none_asked, none_failed, shown_all, shown_none}
use Rattle.mc_pull.proofs.DeskFacts.{still_go}
use Rattle.mc_pull.proofs.PullFacts.{all_desks_go, are_lent, all_first, find_same, one_rose, rows_hold, show_all, views_stay}
use Rattle.mc_pull.proofs.working.work.Goals as goal

pub returns-in-Err-clause-leads : goal.returns-in-Err-clause-leads
returns-in-Err-clause-leads g c = c.give_up-why.ensures.works c.args.budget (finds_at g.K.Keeper.told c.args.sites.now)

pub returns-in-Err-clause-desks : goal.returns-in-Err-clause-desks
returns-in-Err-clause-desks g c = still_go _ g.K.Desk.Counted.faults c.args.sites.now _ _ c.in-Err.ensures.back

pub work-replica-requires-clause-same : goal.work-replica-requires-clause-same
work-replica-requires-clause-same g c κs within = find_same g.K.Keeper.told c.args.workers c.args.sites.now c.args.desks.now c.in-Ok.lent.fetches c.into_vec-fetches.result.items c.in-Ok.lent.rows.items c.into_vec-fetches.ensures c.in-Ok.ensures.lent c.requires.some

pub take_back-requires-clause-holds : goal.take_back-requires-clause-holds
take_back-requires-clause-holds g c = rows_hold g.K.Keeper.told c.args.workers c.args.sites.now c.args.desks.now c.in-Ok.lent.fetches c.into_vec-fetches.result.items c.in-Ok.lent.rows.items c.into_vec-fetches.ensures c.in-Ok.ensures.lent g.K.Keeper.quiet g.K.Keeper.quiet_desk g.K.Desk.Counted.faults g.K.Keeper.desk_schedule _ (λ old new a. a) c.work-replica.result.1.items c.from_vec-fetches.result c.work-replica.ensures.left c.from_vec-fetches.ensures

pub take_back-requires-clause-viewed : goal.take_back-requires-clause-viewed
take_back-requires-clause-viewed g c = views_stay g.K.Keeper.told c.args.workers c.args.sites.now c.args.desks.now c.in-Ok.lent.fetches c.into_vec-fetches.result.items c.in-Ok.lent.rows.items c.into_vec-fetches.ensures c.in-Ok.ensures.lent g.K.Keeper.quiet g.K.Keeper.quiet_desk g.K.Desk.Counted.faults g.K.Keeper.desk_schedule _ (λ old new a. a) c.work-replica.result.1.items c.from_vec-fetches.result c.work-replica.ensures.left c.from_vec-fetches.ensures

pub returns-clause-leads : goal.returns-clause-leads
returns-clause-leads g c = work_told _ c.work-replica.result.2 c.answer.result c.args.budget _ (finds_at g.K.Keeper.told c.args.sites.now) _ _ c.answer.ensures
    (all_first g.K.Keeper.told c.args.workers c.args.sites.now c.args.desks.now c.in-Ok.lent.fetches c.into_vec-fetches.result.items c.in-Ok.lent.rows.items c.into_vec-fetches.ensures c.in-Ok.ensures.lent c.requires.some) c.work-replica.ensures.leads

pub returns-clause-desks : goal.returns-clause-desks
returns-clause-desks g c = all_desks_go g.K.Keeper.told c.args.workers c.args.sites.now c.args.desks.now c.in-Ok.lent.fetches c.into_vec-fetches.result.items c.in-Ok.lent.rows.items c.into_vec-fetches.ensures c.in-Ok.ensures.lent _ g.K.Desk.Counted.faults _ (λ old new a. a) c.work-replica.result.1.items c.from_vec-fetches.result c.work-replica.ensures.left c.from_vec-fetches.ensures _ c.take_back.ensures

pub returns-clause-peers : goal.returns-clause-peers
returns-clause-peers g c = λ e.
    let both = peer_shows _ c.work-replica.result.2 (ap (λ (r : Result Worked WorkError). peer_broke r) (sym c.answer.ensures) ∙ e) in
    one_rose g.K.Keeper.told c.args.workers c.args.sites.now c.args.desks.now c.in-Ok.lent.fetches c.into_vec-fetches.result.items c.in-Ok.lent.rows.items c.into_vec-fetches.ensures c.in-Ok.ensures.lent g.K.Keeper.quiet g.K.Keeper.quiet_desk g.K.Desk.Counted.faults g.K.Keeper.desk_schedule _ (λ old new a. a) c.work-replica.result.1.items c.from_vec-fetches.result c.work-replica.ensures.left c.from_vec-fetches.ensures _ c.take_back.ensures (show_all g.K.Desk.Counted.faults _ (ap (all_show g.K.Desk.Counted.faults) (sym c.as_slice.ensures.value) ∙ sym c.all_show-shows.ensures ∙ both.0)) (c.work-replica.ensures.peer both.1)

pub returns-in-Err-clause-calm : goal.returns-in-Err-clause-calm
returns-in-Err-clause-calm g c = λ none. none_asked g.K.Desk.Counted.faults _ _ c.in-Err.ensures.back

pub returns-clause-calm : goal.returns-clause-calm
returns-clause-calm g c = λ none.
    let lent = are_lent g.K.Keeper.told c.args.workers c.args.sites.now c.args.desks.now c.in-Ok.lent.fetches c.into_vec-fetches.result.items c.in-Ok.lent.rows.items c.into_vec-fetches.ensures c.in-Ok.ensures.lent in
    none_failed g.K.Keeper.quiet g.K.Keeper.quiet_desk g.K.Desk.Counted.faults g.K.Keeper.desk_schedule _ (λ fetch. refl) (λ old new a. a) c.args.workers c.args.sites.now _ _ c.in-Ok.lent.rows.items c.into_vec-fetches.result.items c.work-replica.result.1.items c.from_vec-fetches.result lent.of lent.holds lent.lent c.from_vec-fetches.ensures c.take_back.ensures
    (λ shows. c.work-replica.ensures.calm (shown_none c.all_show-shows.result c.work-replica.result.2 (c.all_show-shows.ensures ∙ ap (all_show g.K.Desk.Counted.faults) c.as_slice.ensures.value ∙ shown_all g.K.Desk.Counted.faults _ shows)
    (ap (λ (r : Result Worked WorkError). none_broke r) (sym c.answer.ensures) ∙ none)))
