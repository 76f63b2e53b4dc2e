use Rattle.std.proofs.Common.{arith}
use Rattle.mc_fetch.specs.Offers.{found_by, surely_by}
use Rattle.mc_drain.specs.Leads.{count}
use Rattle.mc_drain.specs.Words.{FetchedFor, keeper_failed}
use Rattle.mc_drain.proofs.SortFacts.{job_sorts}
use Rattle.mc_drain.proofs.TurnFacts.{fetch_told, job_told}
use Rattle.mc_queue.specs.Views.{shown}
use Rattle.mc_drain.specs.Lost.{StuckFor}
use Rattle.mc_drain.proofs.LostFacts.{looked_sticks, sticks_free}
use Rattle.mc_drain.proofs.sorting.sort_job.Goals as goal

pub returns-in-Ok-clause-leads : goal.returns-in-Ok-clause-leads
returns-in-Ok-clause-leads g c = job_told (keeper_failed c.sort_found.result) count count (found_by (g.F.Fetch.offers c.args.fetch.now)) c.args.job.cid c.look_up.new.job.cid c.args.job.own c.in-Ok.found _ _ (λ s. omega arith) c.look_up.ensures.cid c.in-Ok.ensures.found c.sort_found.ensures.leads

pub returns-in-Ok-clause-sorts : goal.returns-in-Ok-clause-sorts
returns-in-Ok-clause-sorts g c = job_sorts (found_by (g.F.Fetch.offers c.args.fetch.now)) c.args.job.cid c.look_up.new.job.cid c.args.job.own c.in-Ok.found c.sort_found.result _ _ _ c.look_up.ensures.cid c.in-Ok.ensures.found c.sort_found.ensures.sorts

pub returns-in-Err-clause-leads : goal.returns-in-Err-clause-leads
returns-in-Err-clause-leads g c = fetch_told c.in-Err.error c.end_by.result count (FetchedFor (found_by (g.F.Fetch.offers c.args.fetch.now)) c.args.job.cid c.args.job.own) _ _ c.end_by.ensures (λ s. omega arith) c.back.ensures.leads

pub returns-in-Ok-clause-sticks : goal.returns-in-Ok-clause-sticks
returns-in-Ok-clause-sticks g c = λ e. looked_sticks _ _ (surely_by (g.F.Fetch.leading c.args.fetch.now)) c.args.job.cid c.look_up.new.job.cid c.args.job.own c.in-Ok.found (shown c.args.replica.now.queue) (shown c.sort_found.new.replica.queue) c.look_up.ensures.cid c.in-Ok.ensures.own c.in-Ok.ensures.surely (c.sort_found.ensures.sticks e)

pub returns-in-Err-clause-sticks : goal.returns-in-Err-clause-sticks
returns-in-Err-clause-sticks g c = λ e. sticks_free (StuckFor (surely_by (g.F.Fetch.leading c.args.fetch.now)) c.args.job.cid c.args.job.own) (shown c.args.replica.now.queue) (shown c.back.new.replica.queue) c.back.ensures.sticks
