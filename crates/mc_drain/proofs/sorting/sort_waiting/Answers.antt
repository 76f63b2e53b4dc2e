use Rattle.std.proofs.Common.{false, None, refl, ap, subst, arith}
use Rattle.mc_core.specs.Words.{ContinuesAt}
use Rattle.mc_core.proofs.Keeps.{continues_more, rest_more, still_on}
use Rattle.mc_base.specs.Told.{Told}
use Rattle.mc_fetch.specs.Frame.{AsksAt}
use Rattle.mc_fetch.specs.Offers.{found_by, surely_by}
use Rattle.mc_fetch.proofs.AskFacts.{asks_more, asks_none}
use Rattle.mc_drain.specs.Leads.{Leads, count}
use Rattle.mc_core.specs.Replica.{replica_state}
use Rattle.mc_drain.specs.Words.{Fetched, is_keeper, keeper_failed, peer_failed}
use Rattle.mc_drain.proofs.SortFacts.{sorted_told, sorting_told, start_told}
use Rattle.mc_drain.proofs.TurnFacts.{itself_told, sort_told, still_runs}
use Rattle.mc_queue.specs.Views.{shown}
use Rattle.mc_drain.proofs.LostFacts.{lost_end, lost_on, lost_start, lost_then}
use Rattle.mc_drain.proofs.sorting.sort_waiting.Goals as goal

pub loop-left-init : goal.loop-left-init
loop-left-init g c = record {
  runs = c.requires.runs;
  none = c.requires.flight;
  keeps = still_on refl refl refl;
  rest = record { walk_same = refl; batch_same = refl; whole_same = refl; inbox_same = refl };
  asked = asks_none g.met.F.Fetch.follows_itself _;
  leads = itself_told c.order_and_store_grow.ensures c.found_drains_go_on.ensures.goes c.parts_stay_right.ensures.stay (count) (Fetched (found_by (g.F.Fetch.offers c.args.fetch.now))) _ (λ s. omega arith);
  sorting = start_told (found_by (g.F.Fetch.offers c.args.fetch.now)) _ _ _ c.waiting-left.ensures;
  sticks = lost_start (surely_by (g.F.Fetch.leading c.args.fetch.now)) _ (shown c.args.replica.now.queue);
}

pub returns-in-Some-clause-leads : goal.returns-in-Some-clause-leads
returns-in-Some-clause-leads g c = sort_told (is_keeper c.in-Some.end) (found_by (g.F.Fetch.offers c.args.fetch.now)) _ _ _ _ (ap found_by c.loop-left.invariant.asked.offers_same) c.loop-left.invariant.leads c.in-Some.ensures.leads

pub returns-in-Some-clause-keeps : goal.returns-in-Some-clause-keeps
returns-in-Some-clause-keeps g c = continues_more c.loop-left.invariant.keeps c.in-Some.ensures.keeps

pub returns-in-Some-clause-asks : goal.returns-in-Some-clause-asks
returns-in-Some-clause-asks g c = asks_more g.met.F.Fetch.follows_on c.loop-left.invariant.asked c.in-Some.ensures.asks

pub loop-left-preserved : goal.loop-left-preserved
loop-left-preserved g c = record {
  runs = still_runs c.sort_turn.result _ _ c.in_default.is c.sort_turn.ensures.keeps.stops c.loop-left.invariant.runs;
  none = c.sort_turn.ensures.flight (ap keeper_failed c.in_default.is);
  keeps = continues_more c.loop-left.invariant.keeps (subst (λ t. ContinuesAt g.K.Keeper.told g.K.Keeper.fuse g.K.Keeper.own g.K.Counted.faults g.K.Keeper.quiet g.K.Keeper.schedule (keeper_failed t) c.loop-left.replica c.sort_turn.new.replica) c.in_default.is c.sort_turn.ensures.keeps);
  rest = rest_more c.loop-left.invariant.rest c.sort_turn.ensures.rest;
  asked = asks_more g.met.F.Fetch.follows_on c.loop-left.invariant.asked (subst (λ t. AsksAt g.F.Fetch.offers g.F.Fetch.leading g.F.Fetch.places g.F.Fetch.quiet g.F.Counted.faults g.F.Fetch.follows (peer_failed t) c.loop-left.fetch c.sort_turn.new.fetch) c.in_default.is c.sort_turn.ensures.asks);
  leads = sort_told false (found_by (g.F.Fetch.offers c.args.fetch.now)) _ _ _ _ (ap found_by c.loop-left.invariant.asked.offers_same) c.loop-left.invariant.leads (subst (λ t. Told (replica_state g.K.Keeper.told g.K.Keeper.fuse c.loop-left.replica) (replica_state g.K.Keeper.told g.K.Keeper.fuse c.sort_turn.new.replica) (λ s new. Leads (keeper_failed t) (count s) (Fetched (found_by (g.F.Fetch.offers c.loop-left.fetch))) s new)) c.in_default.is c.sort_turn.ensures.leads);
  sorting = sorting_told (found_by (g.F.Fetch.offers c.args.fetch.now)) _ c.sort_turn.result _ _ _ _ _ _ (ap found_by c.loop-left.invariant.asked.offers_same) c.in_default.is (omega (arith, c.loop-left-test.true)) (omega (arith, c.loop-left-test.true)) c.loop-left.invariant.leads c.loop-left.invariant.sorting c.sort_turn.ensures.sorts;
  sticks = lost_end (surely_by (g.F.Fetch.leading c.args.fetch.now)) (keeper_failed c.sort_turn.result) _ (shown c.args.replica.now.queue) (shown c.sort_turn.new.replica.queue) (ap keeper_failed c.in_default.is)
      (lost_then (surely_by (g.F.Fetch.leading c.args.fetch.now)) (surely_by (g.F.Fetch.leading c.loop-left.fetch)) (count) (Fetched (found_by (g.F.Fetch.offers c.args.fetch.now))) (keeper_failed c.sort_turn.result) _ _ (shown c.args.replica.now.queue) (shown c.loop-left.replica.queue) (shown c.sort_turn.new.replica.queue) (ap surely_by c.loop-left.invariant.asked.leading_same) c.loop-left.invariant.leads c.loop-left.invariant.sticks c.sort_turn.ensures.sticks);
}

pub returns-clause-good : goal.returns-clause-good
returns-clause-good g c = sorted_told (found_by (g.F.Fetch.offers c.args.fetch.now)) None _ _ _ (omega (arith, c.loop-left-test.false)) c.loop-left.invariant.sorting

pub returns-in-Some-clause-sticks : goal.returns-in-Some-clause-sticks
returns-in-Some-clause-sticks g c = lost_then (surely_by (g.F.Fetch.leading c.args.fetch.now)) (surely_by (g.F.Fetch.leading c.loop-left.fetch)) (count) (Fetched (found_by (g.F.Fetch.offers c.args.fetch.now))) (is_keeper c.in-Some.end) _ _ (shown c.args.replica.now.queue) (shown c.loop-left.replica.queue) (shown c.sort_turn.new.replica.queue) (ap surely_by c.loop-left.invariant.asked.leading_same) c.loop-left.invariant.leads c.loop-left.invariant.sticks c.in-Some.ensures.sticks

pub returns-clause-sticks : goal.returns-clause-sticks
returns-clause-sticks g c = lost_on (surely_by (g.F.Fetch.leading c.args.fetch.now)) false _ (shown c.args.replica.now.queue) (shown c.loop-left.replica.queue) c.loop-left.invariant.sticks
