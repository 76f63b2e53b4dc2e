use Rattle.std.proofs.Common.{◌≤◌}
use Rattle.mc_core.proofs.Keeps.{continues_more}
use Rattle.mc_fetch.specs.Offers.{found_by}
use Rattle.mc_drain.specs.Leads.{Always, up_to}
use Rattle.mc_drain.specs.Words.{Fetched, keeper_failed}
use Rattle.mc_drain.proofs.EndFacts.{begun_told}
use Rattle.mc_drain.proofs.draining.drain_alone.Goals as goal

pub returns-clause-leads : goal.returns-clause-leads
returns-clause-leads g c = begun_told (keeper_failed c.take_turns.result) c.args.limit (found_by (g.F.Fetch.offers c.args.fetch.now)) _ _ _ c.restart.ensures.leads c.take_turns.ensures.leads

pub returns-clause-keeps : goal.returns-clause-keeps
returns-clause-keeps g c = continues_more c.restart.ensures.keeps c.take_turns.ensures.keeps
