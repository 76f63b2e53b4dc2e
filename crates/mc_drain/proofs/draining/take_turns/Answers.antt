use Rattle.std.proofs.Common.{◌+◌, ◌∙◌, false, refl, ap, subst, sym, arith}
use Rattle.mc_core.specs.Words.{ContinuesAt}
use Rattle.mc_core.proofs.Keeps.{continues_more, rest_more, still_on}
use Rattle.mc_base.specs.Told.{Told}
use Rattle.mc_fetch.specs.Frame.{AsksAt}
use Rattle.mc_fetch.specs.Offers.{found_by, surely_by}
use Rattle.mc_fetch.proofs.AskFacts.{asks_more, asks_none}
use Rattle.mc_drain.specs.Leads.{Leads, count, up_to}
use Rattle.mc_core.specs.Replica.{replica_state}
use Rattle.mc_drain.specs.Words.{Fetched, is_keeper, keeper_failed, peer_failed}
use Rattle.mc_drain.proofs.EndFacts.{rests_at, rests_by}
use Rattle.mc_drain.proofs.TurnFacts.{itself_told, loop_told, room_told, spent_told, still_runs}
use Rattle.mc_queue.specs.Views.{shown}
use Rattle.mc_drain.proofs.LostFacts.{lost_end, lost_on, lost_start, lost_then}
use Rattle.mc_drain.proofs.draining.take_turns.Goals as goal

pub loop-init : goal.loop-init
loop-init g c = record {
  runs = c.requires.runs;
  none = c.requires.flight;
  keeps = still_on refl refl refl;
  rest = record { walk_same = refl; batch_same = refl; whole_same = refl; inbox_same = refl };
  asked = asks_none g.met.F.Fetch.follows_itself _;
  leads = itself_told c.order_and_store_grow.ensures c.found_drains_go_on.ensures.goes c.parts_stay_right.ensures.stay (up_to c.args.limit) (Fetched (found_by (g.F.Fetch.offers c.args.fetch.now))) _ (λ s. omega arith);
  sticks = lost_start (surely_by (g.F.Fetch.leading c.args.fetch.now)) _ (shown c.args.replica.now.queue);
}

pub returns-in-Some-take_turn-clause-leads : goal.returns-in-Some-take_turn-clause-leads
returns-in-Some-take_turn-clause-leads g c = loop_told (is_keeper c.in-Some-take_turn.end) c.args.limit (found_by (g.F.Fetch.offers c.args.fetch.now)) _ _ _ _ (ap found_by c.loop.invariant.asked.offers_same) (room_told c.processed.result c.args.limit _ (omega (arith, c.if-processed-limit.false)) (omega arith) c.processed.ensures) c.loop.invariant.leads c.in-Some-take_turn.ensures.leads

pub returns-in-Some-take_turn-clause-keeps : goal.returns-in-Some-take_turn-clause-keeps
returns-in-Some-take_turn-clause-keeps g c = continues_more c.loop.invariant.keeps c.in-Some-take_turn.ensures.keeps

pub returns-in-Some-take_turn-clause-asks : goal.returns-in-Some-take_turn-clause-asks
returns-in-Some-take_turn-clause-asks g c = asks_more g.met.F.Fetch.follows_on c.loop.invariant.asked c.in-Some-take_turn.ensures.asks

pub loop-preserved : goal.loop-preserved
loop-preserved g c = record {
  runs = still_runs c.take_turn.result _ _ c.in_default.is c.take_turn.ensures.keeps.stops c.loop.invariant.runs;
  none = c.take_turn.ensures.flight (ap keeper_failed c.in_default.is);
  keeps = continues_more c.loop.invariant.keeps (subst (λ t. ContinuesAt g.K.Keeper.told g.K.Keeper.fuse g.K.Keeper.own g.K.Counted.faults g.K.Keeper.quiet g.K.Keeper.schedule (keeper_failed t) c.loop.replica c.take_turn.new.replica) c.in_default.is c.take_turn.ensures.keeps);
  rest = rest_more c.loop.invariant.rest c.take_turn.ensures.rest;
  asked = asks_more g.met.F.Fetch.follows_on c.loop.invariant.asked (subst (λ t. AsksAt g.F.Fetch.offers g.F.Fetch.leading g.F.Fetch.places g.F.Fetch.quiet g.F.Counted.faults g.F.Fetch.follows (peer_failed t) c.loop.fetch c.take_turn.new.fetch) c.in_default.is c.take_turn.ensures.asks);
  leads = loop_told false c.args.limit (found_by (g.F.Fetch.offers c.args.fetch.now)) _ _ _ _ (ap found_by c.loop.invariant.asked.offers_same) (room_told c.processed.result c.args.limit _ (omega (arith, c.if-processed-limit.false)) (omega arith) c.processed.ensures) c.loop.invariant.leads (subst (λ t. Told (replica_state g.K.Keeper.told g.K.Keeper.fuse c.loop.replica) (replica_state g.K.Keeper.told g.K.Keeper.fuse c.take_turn.new.replica) (λ s new. Leads (keeper_failed t) (count s + 1) (Fetched (found_by (g.F.Fetch.offers c.loop.fetch))) s new)) c.in_default.is c.take_turn.ensures.leads);
  sticks = lost_end (surely_by (g.F.Fetch.leading c.args.fetch.now)) (keeper_failed c.take_turn.result) _ (shown c.args.replica.now.queue) (shown c.take_turn.new.replica.queue) (ap keeper_failed c.in_default.is)
      (lost_then (surely_by (g.F.Fetch.leading c.args.fetch.now)) (surely_by (g.F.Fetch.leading c.loop.fetch)) (up_to c.args.limit) (Fetched (found_by (g.F.Fetch.offers c.args.fetch.now))) (keeper_failed c.take_turn.result) _ _ (shown c.args.replica.now.queue) (shown c.loop.replica.queue) (shown c.take_turn.new.replica.queue) (ap surely_by c.loop.invariant.asked.leading_same) c.loop.invariant.leads c.loop.invariant.sticks c.take_turn.ensures.sticks);
}

pub returns-in-Some-take_turn-clause-sticks : goal.returns-in-Some-take_turn-clause-sticks
returns-in-Some-take_turn-clause-sticks g c = lost_then (surely_by (g.F.Fetch.leading c.args.fetch.now)) (surely_by (g.F.Fetch.leading c.loop.fetch)) (up_to c.args.limit) (Fetched (found_by (g.F.Fetch.offers c.args.fetch.now))) (is_keeper c.in-Some-take_turn.end) _ _ (shown c.args.replica.now.queue) (shown c.loop.replica.queue) (shown c.take_turn.new.replica.queue) (ap surely_by c.loop.invariant.asked.leading_same) c.loop.invariant.leads c.loop.invariant.sticks c.in-Some-take_turn.ensures.sticks

pub returns-then-processed-limit-clause-sticks : goal.returns-then-processed-limit-clause-sticks
returns-then-processed-limit-clause-sticks g c = lost_on (surely_by (g.F.Fetch.leading c.args.fetch.now)) false _ (shown c.args.replica.now.queue) (shown c.loop.replica.queue) c.loop.invariant.sticks

pub returns-then-processed-limit-clause-rested : goal.returns-then-processed-limit-clause-rested
returns-then-processed-limit-clause-rested g c = rests_at _ c.args.limit c.args.enough (shown c.loop.replica.queue) _ (spent_told c.processed.result c.args.limit _ (omega (arith, c.if-processed-limit.true)) c.processed.ensures)

pub returns-then-are_enough-clause-rested : goal.returns-then-are_enough-clause-rested
returns-then-are_enough-clause-rested g c = rests_by _ c.args.limit c.args.enough (shown c.loop.replica.queue) _ (sym c.are_enough.ensures ∙ c.if-are_enough.true)

pub returns-then-are_enough-clause-sticks : goal.returns-then-are_enough-clause-sticks
returns-then-are_enough-clause-sticks g c = lost_on (surely_by (g.F.Fetch.leading c.args.fetch.now)) false _ (shown c.args.replica.now.queue) (shown c.loop.replica.queue) c.loop.invariant.sticks
