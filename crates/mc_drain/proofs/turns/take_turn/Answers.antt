use Rattle.std.proofs.Common.{◌+◌, false, arith, subst, refl}
use Rattle.mc_model.specs.Wanted.{Queue}
use Rattle.mc_queue.specs.Views.{shown}
use Rattle.mc_core.proofs.Keeps.{continues_more}
use Rattle.mc_fetch.specs.Offers.{found_by, surely_by}
use Rattle.mc_drain.specs.Leads.{Always, count}
use Rattle.mc_drain.specs.Words.{EndsJob, Fetched, is_keeper, keeper_failed}
use Rattle.mc_drain.proofs.TurnFacts.{turn_told, weaker_told}
use Rattle.mc_drain.proofs.LostFacts.{free_sticks, turn_sticks}
use Rattle.mc_drain.proofs.turns.take_turn.Goals as goal

pub returns-in-Ok-Some-clause-leads : goal.returns-in-Ok-Some-clause-leads
returns-in-Ok-Some-clause-leads g c = let digest = rw c.in-Ok-Some.field-0-is at c.in-Ok-Some.ensures.digest in let own = rw c.in-Ok-Some.field-0-is at c.in-Ok-Some.ensures.own in
    turn_told (keeper_failed c.do_job.result) (λ s. count s + 1) (found_by (g.F.Fetch.offers c.args.fetch.now)) c.in-Ok-Some.job.cid c.in-Ok-Some.job.own _ _ _ (λ s mid e. omega (arith, e)) digest c.in-Ok-Some.ensures.leads c.do_job.ensures.leads own

pub returns-in-Ok-Some-clause-keeps : goal.returns-in-Ok-Some-clause-keeps
returns-in-Ok-Some-clause-keeps g c = continues_more c.in-Ok-Some.ensures.keeps c.do_job.ensures.keeps

pub returns-in-Ok-None-clause-leads : goal.returns-in-Ok-None-clause-leads
returns-in-Ok-None-clause-leads g c = weaker_told false count (λ s. count s + 1) Always (Fetched (found_by (g.F.Fetch.offers c.args.fetch.now))) _ _ (λ s. omega arith) (λ known kept f. tt) c.in-Ok-None.ensures.leads

pub returns-in-Err-clause-leads : goal.returns-in-Err-clause-leads
returns-in-Err-clause-leads g c = weaker_told (is_keeper c.in-Err.end) count (λ s. count s + 1) Always (Fetched (found_by (g.F.Fetch.offers c.args.fetch.now))) _ _ (λ s. omega arith) (λ known kept f. tt) c.in-Err.ensures.leads

pub returns-in-Ok-Some-clause-turn : goal.returns-in-Ok-Some-clause-turn
returns-in-Ok-Some-clause-turn g c = let begins = rw c.in-Ok-Some.field-0-is at c.in-Ok-Some.ensures.begins in λ e. record {
  first = c.in-Ok-Some.job.cid;
  takes = begins.0;
  ends = subst (λ (q : Queue). EndsJob q (shown c.do_job.new.replica.queue) c.in-Ok-Some.job.cid) begins.1 (c.do_job.ensures.ends e);
}

pub returns-in-Ok-Some-clause-sticks : goal.returns-in-Ok-Some-clause-sticks
returns-in-Ok-Some-clause-sticks g c = let own = rw c.in-Ok-Some.field-0-is at c.in-Ok-Some.ensures.own in
    turn_sticks (surely_by (g.F.Fetch.leading c.args.fetch.now)) (keeper_failed c.do_job.result) c.in-Ok-Some.job.cid c.in-Ok-Some.job.own _ (shown c.args.replica.now.queue) (shown c.begin.new.replica.queue) (shown c.do_job.new.replica.queue) c.is_sound.ensures.state own (c.in-Ok-Some.ensures.sticks refl) c.do_job.ensures.sticks

pub returns-in-Ok-None-clause-sticks : goal.returns-in-Ok-None-clause-sticks
returns-in-Ok-None-clause-sticks g c = free_sticks (surely_by (g.F.Fetch.leading c.args.fetch.now)) false _ (shown c.args.replica.now.queue) (shown c.begin.new.replica.queue) (λ e. c.in-Ok-None.ensures.sticks refl)

pub returns-in-Err-clause-sticks : goal.returns-in-Err-clause-sticks
returns-in-Err-clause-sticks g c = free_sticks (surely_by (g.F.Fetch.leading c.args.fetch.now)) (is_keeper c.in-Err.end) _ (shown c.args.replica.now.queue) (shown c.begin.new.replica.queue) c.in-Err.ensures.sticks
