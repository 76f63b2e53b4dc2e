use Rattle.std.proofs.Common.{◌≡◌, ◌≤◌, ◌||◌, ◌∙◌, Some, None, refl, ap, false}
use Rattle.mc_core.proofs.Keeps.{continues_more}
use Rattle.mc_fetch.specs.Offers.{found_by, surely_by}
use Rattle.mc_fetch.proofs.AskFacts.{asks_more}
use Rattle.mc_queue.specs.Views.{shown}
use Rattle.mc_core.specs.Events.{ReplicaState}
use Rattle.mc_drain.specs.declared.end.DrainEnd.{DrainEnd}
use Rattle.mc_drain.specs.Leads.{count, Always, up_to}
use Rattle.mc_drain.specs.Words.{is_keeper, Fetched, HasRested}
use Rattle.mc_drain.proofs.CallFacts.{some_with}
use Rattle.mc_drain.proofs.EndFacts.{at_limit, drain_ended, drain_parted, waiting_shown}
use Rattle.mc_drain.proofs.LostFacts.{all_lost, lost_end, lost_then}
use Rattle.mc_drain.proofs.draining.drain.Goals as goal

pub returns-in-Some-clause-leads : goal.returns-in-Some-clause-leads
returns-in-Some-clause-leads g c = drain_ended c.in-Some.end c.args.limit (found_by (g.F.Fetch.offers c.args.fetch.now)) _ _ _ (λ e. c.in-Some.ensures.unspent (ap Some e)) c.restart.ensures.leads c.restart.ensures.fresh c.in-Some.ensures.leads

pub returns-in-Some-clause-keeps : goal.returns-in-Some-clause-keeps
returns-in-Some-clause-keeps g c = continues_more c.restart.ensures.keeps c.in-Some.ensures.keeps

pub returns-in-None-clause-leads : goal.returns-in-None-clause-leads
returns-in-None-clause-leads g c =
    let same = c.in-None.ensures.asks.offers_same in
    let spent = some_with (λ (s : ReplicaState). None ≡ None → HasRested c.args.limit None s (shown c.take_turns.new.replica.queue)) (λ (s : ReplicaState). c.args.limit ≤ count s) (λ s h. at_limit c.args.limit s (shown c.take_turns.new.replica.queue) (h refl)) _ c.in-None.ensures.rested in
    drain_parted c.part.result c.args.limit (found_by (g.F.Fetch.offers c.args.fetch.now)) (shown c.part.new.replica.queue).waiting _ _ _ _ c.restart.ensures.leads c.restart.ensures.fresh c.in-None.ensures.leads spent
    (rw same at c.part.ensures.leads) (rw same at c.part.ensures.good)
    (λ e. waiting_shown _ _ _ _ (c.part.ensures.keeps.stops ∙ ap (λ (x : DrainEnd). is_keeper x || c.take_turns.new.replica.stopped) e ∙ c.in-None.ensures.keeps.stops ∙ c.restart.ensures.keeps.stops ∙ c.requires.runs))

pub returns-in-None-clause-keeps : goal.returns-in-None-clause-keeps
returns-in-None-clause-keeps g c = continues_more (continues_more c.restart.ensures.keeps c.in-None.ensures.keeps) c.part.ensures.keeps

pub returns-in-None-clause-asks : goal.returns-in-None-clause-asks
returns-in-None-clause-asks g c = asks_more g.met.F.Fetch.follows_on c.in-None.ensures.asks c.part.ensures.asks

pub returns-in-Some-clause-lost : goal.returns-in-Some-clause-lost
returns-in-Some-clause-lost g c = all_lost (surely_by (g.F.Fetch.leading c.args.fetch.now)) count Always (is_keeper c.in-Some.end) _ _ (shown c.restart.new.replica.queue) (shown c.take_turns.new.replica.queue) c.restart.ensures.freed c.restart.ensures.leads c.in-Some.ensures.sticks

pub returns-in-None-clause-lost : goal.returns-in-None-clause-lost
returns-in-None-clause-lost g c = all_lost (surely_by (g.F.Fetch.leading c.args.fetch.now)) count Always (is_keeper c.part.result) _ _ (shown c.restart.new.replica.queue) (shown c.part.new.replica.queue) c.restart.ensures.freed c.restart.ensures.leads
    (lost_then (surely_by (g.F.Fetch.leading c.args.fetch.now)) (surely_by (g.F.Fetch.leading c.take_turns.new.fetch)) (up_to c.args.limit) (Fetched (found_by (g.F.Fetch.offers c.args.fetch.now))) (is_keeper c.part.result) _ _ (shown c.restart.new.replica.queue) (shown c.take_turns.new.replica.queue) (shown c.part.new.replica.queue) (ap surely_by c.in-None.ensures.asks.leading_same) c.in-None.ensures.leads
    (lost_end (surely_by (g.F.Fetch.leading c.args.fetch.now)) false _ (shown c.restart.new.replica.queue) (shown c.take_turns.new.replica.queue) refl c.in-None.ensures.sticks) c.part.ensures.sticks)
