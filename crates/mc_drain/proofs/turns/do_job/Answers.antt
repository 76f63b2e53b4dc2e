use Rattle.std.proofs.Common.{◌+◌, arith, subst}
use Rattle.mc_base.specs.declared.cid.Cid.{Cid}
use Rattle.mc_queue.specs.Views.{shown}
use Rattle.mc_fetch.specs.Offers.{found_by, surely_by}
use Rattle.mc_model.specs.Draining.{delivery}
use Rattle.mc_core.specs.Jobs.{found_in}
use Rattle.mc_drain.specs.Leads.{all_processes, count}
use Rattle.mc_drain.specs.Words.{EndsJob, FetchedFor, keeper_failed}
use Rattle.mc_drain.proofs.CallFacts.{delivery_processes}
use Rattle.mc_drain.proofs.TurnFacts.{fetch_told, job_told}
use Rattle.mc_drain.specs.Lost.{StuckFor}
use Rattle.mc_drain.proofs.LostFacts.{looked_sticks, sticks_free}
use Rattle.mc_drain.proofs.turns.do_job.Goals as goal

pub returns-in-Ok-clause-leads : goal.returns-in-Ok-clause-leads
returns-in-Ok-clause-leads g c = job_told (keeper_failed c.deliver.result) (λ s. count s + all_processes (delivery s.state.durable.graph c.look_up.new.job.cid (found_in c.in-Ok.found))) (λ s. count s + 1) (found_by (g.F.Fetch.offers c.args.fetch.now)) c.args.job.cid c.look_up.new.job.cid c.args.job.own c.in-Ok.found _ _
    (λ s. let d = delivery_processes s.state.durable.graph c.look_up.new.job.cid (found_in c.in-Ok.found) in omega (arith, d)) c.look_up.ensures.cid c.in-Ok.ensures.found c.deliver.ensures.leads

pub returns-in-Err-clause-leads : goal.returns-in-Err-clause-leads
returns-in-Err-clause-leads g c = fetch_told c.in-Err.error c.end_by.result (λ s. count s + 1) (FetchedFor (found_by (g.F.Fetch.offers c.args.fetch.now)) c.args.job.cid c.args.job.own) _ _ c.end_by.ensures (λ s. omega arith) c.back.ensures.leads

pub returns-in-Ok-clause-ends : goal.returns-in-Ok-clause-ends
returns-in-Ok-clause-ends g c = λ e. subst (λ (cid : Cid). EndsJob (shown c.args.replica.now.queue) (shown c.deliver.new.replica.queue) cid) c.look_up.ensures.cid (c.deliver.ensures.ends e)

pub returns-in-Ok-clause-sticks : goal.returns-in-Ok-clause-sticks
returns-in-Ok-clause-sticks g c = λ e. looked_sticks _ _ (surely_by (g.F.Fetch.leading c.args.fetch.now)) c.args.job.cid c.look_up.new.job.cid c.args.job.own c.in-Ok.found (shown c.args.replica.now.queue) (shown c.deliver.new.replica.queue) c.look_up.ensures.cid c.in-Ok.ensures.own c.in-Ok.ensures.surely (c.deliver.ensures.sticks e)

pub returns-in-Err-clause-sticks : goal.returns-in-Err-clause-sticks
returns-in-Err-clause-sticks g c = λ e. sticks_free (StuckFor (surely_by (g.F.Fetch.leading c.args.fetch.now)) c.args.job.cid c.args.job.own) (shown c.args.replica.now.queue) (shown c.back.new.replica.queue) c.back.ensures.sticks
