use Rattle.std.proofs.Common.{◌∙◌, Bool, ap, refl, subst, sym}
use Rattle.mc_model.specs.Wanted.{Queue}
use Rattle.mc_core.specs.Words.{ContinuesAt}
use Rattle.mc_core.proofs.Keeps.{continues_more, still_on}
use Rattle.mc_drain.specs.Words.{is_keeper}
use Rattle.mc_node.proofs.FrameFacts.{run_more, run_same}
use Rattle.mc_pull.specs.Hands.{found_first}
use Rattle.mc_pull.proofs.Left.{calm_itself, calm_more, few_left, found_left, left_calm, left_itself, left_more, rose_more, still_same}
use Rattle.mc_pull.proofs.StartFacts.{alone_told, shared_told, stops_by, unshared}
use Rattle.mc_pull.proofs.crew.starting.share.Goals as goal

pub returns-then-workers-lt2-clause-leads : goal.returns-then-workers-lt2-clause-leads
returns-then-workers-lt2-clause-leads g c = unshared c.args.limit (found_first g.F.Fetch.offers c.args.fetches.items) _ _ c.requires.runs

pub returns-then-workers-lt2-clause-keeps : goal.returns-then-workers-lt2-clause-keeps
returns-then-workers-lt2-clause-keeps g c = still_on refl refl c.requires.runs

pub returns-then-workers-lt2-clause-left : goal.returns-then-workers-lt2-clause-left
returns-then-workers-lt2-clause-left g c = left_itself _ c.fetches_follow.ensures.itself _

pub returns-then-workers-lt2-clause-calm : goal.returns-then-workers-lt2-clause-calm
returns-then-workers-lt2-clause-calm g c = λ e. calm_itself _ c.fetches_follow.ensures.itself _

pub returns-in-Some-clause-leads : goal.returns-in-Some-clause-leads
returns-in-Some-clause-leads g c = alone_told c.found_drains_go_on.ensures.begins _ _ c.args.limit (found_first g.F.Fetch.offers c.args.fetches.items) _ _ (stops_by _ _ _ c.in-Some.ensures.keeps.stops c.requires.runs) c.in-Some.ensures.leads

pub returns-in-Some-clause-keeps : goal.returns-in-Some-clause-keeps
returns-in-Some-clause-keeps g c =
    subst (λ (f : Bool). ContinuesAt g.K.Keeper.told g.K.Keeper.fuse g.K.Keeper.own g.K.Counted.faults g.K.Keeper.quiet g.K.Keeper.schedule f c.args.replica c.start.new.replica)
    (sym (stops_by (is_keeper c.in-Some.end) _ _ c.in-Some.ensures.keeps.stops c.requires.runs)) c.in-Some.ensures.keeps

pub returns-in-Some-clause-rest : goal.returns-in-Some-clause-rest
returns-in-Some-clause-rest g c = run_same c.in-Some.ensures.rest

pub returns-in-None-clause-leads : goal.returns-in-None-clause-leads
returns-in-None-clause-leads g c =
    shared_told c.found_drains_go_on.ensures.begins _ c.args.limit (found_first g.F.Fetch.offers c.args.fetches.items) _ _ _ _ _ (found_left _ _ _ c.in-None.ensures.left) c.in-None.ensures.leads c.requeue.ensures.leads c.requeue.ensures.stored c.round.ensures.leads

pub returns-in-None-clause-keeps : goal.returns-in-None-clause-keeps
returns-in-None-clause-keeps g c = continues_more (continues_more c.in-None.ensures.keeps c.requeue.ensures.keeps) c.round.ensures.keeps

pub returns-in-None-clause-rest : goal.returns-in-None-clause-rest
returns-in-None-clause-rest g c = run_more (run_more (run_same c.in-None.ensures.rest) (run_same c.requeue.ensures.rest)) c.round.ensures.rest

pub returns-in-None-clause-left : goal.returns-in-None-clause-left
returns-in-None-clause-left g c = left_more _ c.fetches_follow.ensures.on _ _ _ (c.in-None.ensures.calm refl) c.round.ensures.left

pub returns-in-None-clause-calm : goal.returns-in-None-clause-calm
returns-in-None-clause-calm g c = λ none. calm_more _ c.fetches_follow.ensures.on _ _ _ (c.in-None.ensures.calm refl) (c.round.ensures.calm none)

pub returns-in-None-clause-peer : goal.returns-in-None-clause-peer
returns-in-None-clause-peer g c = λ some. rose_more _ _ _ _ (c.in-None.ensures.calm refl) (c.round.ensures.peer some)

pub round-requires-clause-runs : goal.round-requires-clause-runs
round-requires-clause-runs g c κs within = c.requeue.ensures.keeps.stops ∙ c.in-None.ensures.keeps.stops ∙ c.requires.runs

pub round-requires-clause-fresh : goal.round-requires-clause-fresh
round-requires-clause-fresh g c κs within = (ap (λ (q : Queue). q.missing) c.requeue.ensures.wants, ap (λ (q : Queue). q.bad) c.requeue.ensures.wants)

pub round-requires-clause-few : goal.round-requires-clause-few
round-requires-clause-few g c κs within = few_left _ _ _ (c.in-None.ensures.calm refl) c.requires.few

pub round-requires-clause-same : goal.round-requires-clause-same
round-requires-clause-same g c κs within = still_same _ _ _ (c.in-None.ensures.calm refl) c.requires.same
