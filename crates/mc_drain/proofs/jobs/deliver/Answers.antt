use Rattle.std.proofs.Common.{◌+◌, ◌∙◌, Bool, false, sym, subst}
use Rattle.mc_model.specs.Draining.{delivery}
use Rattle.mc_core.specs.Jobs.{found_in}
use Rattle.mc_core.specs.Words.{ContinuesAt}
use Rattle.mc_core.proofs.Keeps.{continues_more}
use Rattle.mc_drain.specs.Leads.{all_processes, count}
use Rattle.mc_drain.specs.Words.{FoundFor, is_keeper}
use Rattle.mc_drain.proofs.QueueFacts.{flight_after}
use Rattle.mc_drain.proofs.TurnFacts.{alike_told, recalled_end}
use Rattle.std.proofs.lemmas.Bool.{false≢true}
use Rattle.mc_queue.specs.Views.{shown}
use Rattle.mc_drain.specs.Lost.{StuckOf}
use Rattle.mc_drain.proofs.LostFacts.{broken_memory, delivered_sticks, recalled_sticks}
use Rattle.mc_drain.proofs.jobs.deliver.Goals as goal

pub returns-in-Ok-clause-leads : goal.returns-in-Ok-clause-leads
returns-in-Ok-clause-leads g c = alike_told false (λ s. count s + all_processes (delivery s.state.durable.graph c.args.job.cid (found_in c.args.found))) c.args.job.cid (found_in c.args.found) _ _ c.in-Ok.ensures.leads

pub returns-then-is_keeper-clause-leads : goal.returns-then-is_keeper-clause-leads
returns-then-is_keeper-clause-leads g c = alike_told (is_keeper c.in-Err.end) (λ s. count s + all_processes (delivery s.state.durable.graph c.args.job.cid (found_in c.args.found))) c.args.job.cid (found_in c.args.found) _ _ c.in-Err.ensures.leads

pub returns-in-Ok-clause-ends : goal.returns-in-Ok-clause-ends
returns-in-Ok-clause-ends g c = λ e. record { delivered = c.in-Ok._delivered; after = c.in-Ok.ensures.wants }

pub returns-in-Ok-clause-flight : goal.returns-in-Ok-clause-flight
returns-in-Ok-clause-flight g c = λ e. flight_after c.in-Ok._delivered _ _ c.args.job.cid c.requires.flight c.in-Ok.ensures.wants c.in-Ok.ensures.known

pub returns-else-is_keeper-clause-leads : goal.returns-else-is_keeper-clause-leads
returns-else-is_keeper-clause-leads g c = recalled_end (is_keeper c.in-Err.end) (λ s. count s + all_processes (delivery s.state.durable.graph c.args.job.cid (found_in c.args.found))) (FoundFor c.args.job.cid (found_in c.args.found)) _ _ _ (sym c.is_keeper.ensures ∙ c.if-is_keeper.false)
    (alike_told (is_keeper c.in-Err.end) (λ s. count s + all_processes (delivery s.state.durable.graph c.args.job.cid (found_in c.args.found))) c.args.job.cid (found_in c.args.found) _ _ c.in-Err.ensures.leads) c.recall.ensures.leads

pub returns-else-is_keeper-clause-keeps : goal.returns-else-is_keeper-clause-keeps
returns-else-is_keeper-clause-keeps g c = let well = sym c.is_keeper.ensures ∙ c.if-is_keeper.false in
    subst (λ (b : Bool). ContinuesAt g.K.Keeper.told g.K.Keeper.fuse g.K.Keeper.own g.K.Counted.faults g.K.Keeper.quiet g.K.Keeper.schedule b c.args.replica.now c.recall.new.replica) (sym well)
    (continues_more (subst (λ (b : Bool). ContinuesAt g.K.Keeper.told g.K.Keeper.fuse g.K.Keeper.own g.K.Counted.faults g.K.Keeper.quiet g.K.Keeper.schedule b c.args.replica.now c.deliver_job.new.replica) well c.in-Err.ensures.keeps) c.recall.ensures.keeps)

pub returns-in-Ok-clause-sticks : goal.returns-in-Ok-clause-sticks
returns-in-Ok-clause-sticks g c = λ e. delivered_sticks c.in-Ok._delivered (shown c.args.replica.now.queue) (shown c.deliver_job.new.replica.queue) c.args.job.cid (found_in c.args.found) c.in-Ok.ensures.wants c.in-Ok.ensures.answers

pub returns-then-is_keeper-clause-sticks : goal.returns-then-is_keeper-clause-sticks
returns-then-is_keeper-clause-sticks g c = λ e. absurd (false≢true (sym e ∙ sym c.is_keeper.ensures ∙ c.if-is_keeper.true))

pub returns-else-is_keeper-clause-sticks : goal.returns-else-is_keeper-clause-sticks
returns-else-is_keeper-clause-sticks g c = λ e. recalled_sticks (StuckOf c.args.job.cid (found_in c.args.found)) (shown c.args.replica.now.queue) (shown c.deliver_job.new.replica.queue) (shown c.recall.new.replica.queue) c.args.job.cid (c.in-Err.ensures.short (broken_memory c.in-Err.end c.in-Err.ensures.broken e)) c.recall.ensures.wants
