use Rattle.mc_fetch.specs.Offers.{found_by, surely_by}
use Rattle.mc_drain.specs.declared.end.DrainEnd.TheVariants.{Spent}
use Rattle.mc_drain.proofs.SortFacts.{good_told}
use Rattle.std.proofs.Common.{false, ap}
use Rattle.mc_queue.specs.Views.{shown}
use Rattle.mc_drain.specs.Words.{keeper_failed}
use Rattle.mc_drain.proofs.LostFacts.{lost_end, lost_on}
use Rattle.mc_drain.proofs.draining.part.Goals as goal

pub returns-clause-good : goal.returns-clause-good
returns-clause-good g c = good_told (found_by (g.F.Fetch.offers c.args.fetch.now)) c.sort_waiting.result Spent _ _ c.in_default.is c.sort_waiting.ensures.good

pub returns-clause-sticks : goal.returns-clause-sticks
returns-clause-sticks g c = lost_on (surely_by (g.F.Fetch.leading c.args.fetch.now)) false _ (shown c.args.replica.now.queue) (shown c.sort_waiting.new.replica.queue) (lost_end (surely_by (g.F.Fetch.leading c.args.fetch.now)) (keeper_failed c.sort_waiting.result) _ (shown c.args.replica.now.queue) (shown c.sort_waiting.new.replica.queue) (ap keeper_failed c.in_default.is) c.sort_waiting.ensures.sticks)
