use Rattle.std.proofs.Common.{◌+◌, Bool, false, None, subst, arith}
use Rattle.mc_model.specs.Draining.{delivery}
use Rattle.mc_core.specs.Jobs.{found_in}
use Rattle.mc_drain.specs.Leads.{Always, all_processes, count}
use Rattle.mc_drain.specs.Words.{FoundFor, IsGoodness, IsNoBlock, keeper_failed}
use Rattle.mc_drain.proofs.CallFacts.{no_block_processes}
use Rattle.mc_drain.proofs.SortFacts.{bad_sorts, good_sorts}
use Rattle.mc_drain.proofs.TurnFacts.{weaker_told}
use Rattle.mc_queue.specs.Views.{shown}
use Rattle.mc_drain.specs.Lost.{StuckOf}
use Rattle.mc_drain.proofs.LostFacts.{sticks_free}
use Rattle.mc_drain.proofs.sorting.sort_found.Goals as goal

pub returns-in-Ok-true-clause-leads : goal.returns-in-Ok-true-clause-leads
returns-in-Ok-true-clause-leads g c = weaker_told false count count Always (FoundFor c.args.job.cid (found_in c.args.found)) _ _ (λ s. omega arith) (λ known kept f. tt) c.back.ensures.leads

pub returns-in-Ok-true-clause-sorts : goal.returns-in-Ok-true-clause-sorts
returns-in-Ok-true-clause-sorts g c =
    good_sorts c.args.job.cid (found_in c.args.found) None _ _ _ c.back.ensures.waits (subst (λ (b : Bool). IsGoodness b c.args.job.cid (found_in c.args.found)) c.in-Ok-true.field-0-test c.in-Ok-true.ensures)

pub returns-in-Ok-false-clause-leads : goal.returns-in-Ok-false-clause-leads
returns-in-Ok-false-clause-leads g c =
    let none : IsNoBlock c.args.job.cid (found_in c.args.found) = subst (λ (b : Bool). IsGoodness b c.args.job.cid (found_in c.args.found)) c.in-Ok-false.field-0-test c.in-Ok-false.ensures in
    weaker_told (keeper_failed c.deliver.result) (λ s. count s + all_processes (delivery s.state.durable.graph c.args.job.cid (found_in c.args.found))) count (FoundFor c.args.job.cid (found_in c.args.found)) (FoundFor c.args.job.cid (found_in c.args.found)) _ _
    (λ s. let few = no_block_processes s.state.durable.graph c.args.job.cid (found_in c.args.found) none in omega (arith, few)) (λ known kept f. f) c.deliver.ensures.leads

pub returns-in-Err-clause-leads : goal.returns-in-Err-clause-leads
returns-in-Err-clause-leads g c = weaker_told false count count Always (FoundFor c.args.job.cid (found_in c.args.found)) _ _ (λ s. omega arith) (λ known kept f. tt) c.back-in-Err.ensures.leads

pub returns-in-Ok-false-clause-sorts : goal.returns-in-Ok-false-clause-sorts
returns-in-Ok-false-clause-sorts g c =
    let none : IsNoBlock c.args.job.cid (found_in c.args.found) = subst (λ (b : Bool). IsGoodness b c.args.job.cid (found_in c.args.found)) c.in-Ok-false.field-0-test c.in-Ok-false.ensures in
    bad_sorts c.args.job.cid (found_in c.args.found) c.deliver.result _ _ _ none c.deliver.ensures.stuck

pub returns-in-Ok-true-clause-sticks : goal.returns-in-Ok-true-clause-sticks
returns-in-Ok-true-clause-sticks g c = λ e. sticks_free (StuckOf c.args.job.cid (found_in c.args.found)) (shown c.args.replica.now.queue) (shown c.back.new.replica.queue) c.back.ensures.sticks

pub returns-in-Err-clause-sticks : goal.returns-in-Err-clause-sticks
returns-in-Err-clause-sticks g c = λ e. sticks_free (StuckOf c.args.job.cid (found_in c.args.found)) (shown c.args.replica.now.queue) (shown c.back-in-Err.new.replica.queue) c.back-in-Err.ensures.sticks
