use Rattle.std.proofs.Common.{◌∙◌, ap, true, false, Ok, Err, refl, sym}
use Rattle.std.proofs.lemmas.Bool.{false≢true}
use Rattle.std.specs.Prelude.{⊤}
use Rattle.mc_base.specs.Causes.{Rose}
use Rattle.mc_core.specs.Jobs.{DeliverEvents, DeliverShort, found_in}
use Rattle.mc_drain.specs.Words.{is_keeper}
use Rattle.mc_drain.proofs.JobFacts.{job_faults, job_short, left_delivery}
use Rattle.mc_drain.proofs.TurnFacts.{deliver_told, runs_where, stuck_told}
use Rattle.mc_drain.proofs.jobs.deliver_job.Goals as goal

pub returns-in-Ok-clause-leads : goal.returns-in-Ok-clause-leads
returns-in-Ok-clause-leads g c = deliver_told c.order_and_store_grow.ensures c.found_drains_go_on.ensures.goes c.parts_stay_right.ensures.stay c.deliveries_are_drains.ensures.takes c.deliveries_are_drains.ensures.says c.args.job.cid (found_in c.args.found) ⊤ (Ok c.in-Ok.delivered) false _ _ refl c.is_sound.ensures.state c.in-Ok.ensures.call

pub returns-in-Ok-clause-stuck : goal.returns-in-Ok-clause-stuck
returns-in-Ok-clause-stuck g c = stuck_told c.args.job.cid (found_in c.args.found) c.in-Ok.delivered _ _ _ _ c.in-Ok.ensures.call c.in-Ok.ensures.wants

pub returns-then-is_fault-clause-leads : goal.returns-then-is_fault-clause-leads
returns-then-is_fault-clause-leads g c = deliver_told c.order_and_store_grow.ensures c.found_drains_go_on.ensures.goes c.parts_stay_right.ensures.stay c.deliveries_are_drains.ensures.takes c.deliveries_are_drains.ensures.says c.args.job.cid (found_in c.args.found) (Rose (g.K.Keeper.own c.args.replica.now.keeper) (g.K.Keeper.own c.deliver.new.self.keeper)) (Err c.in-Err.error) true _ _ (sym c.is_fault.ensures ∙ c.if-is_fault.true) c.is_sound.ensures.state c.in-Err.ensures.call

pub returns-else-is_fault-clause-leads : goal.returns-else-is_fault-clause-leads
returns-else-is_fault-clause-leads g c = deliver_told c.order_and_store_grow.ensures c.found_drains_go_on.ensures.goes c.parts_stay_right.ensures.stay c.deliveries_are_drains.ensures.takes c.deliveries_are_drains.ensures.says c.args.job.cid (found_in c.args.found) (Rose (g.K.Keeper.own c.args.replica.now.keeper) (g.K.Keeper.own c.deliver.new.self.keeper)) (Err c.in-Err.error) false _ _ (sym c.is_fault.ensures ∙ c.if-is_fault.false) c.is_sound.ensures.state c.in-Err.ensures.call

pub returns-in-Ok-clause-call : goal.returns-in-Ok-clause-call
returns-in-Ok-clause-call g c = c.in-Ok.ensures.call

pub returns-then-is_fault-clause-call : goal.returns-then-is_fault-clause-call
returns-then-is_fault-clause-call g c = job_faults (λ s. DeliverEvents s c.args.job.cid (found_in c.args.found)) (λ s. DeliverShort s c.args.job.cid) (Rose (g.K.Keeper.own c.args.replica.now.keeper) (g.K.Keeper.own c.deliver.new.self.keeper)) c.in-Err.error _ _ (sym c.is_fault.ensures ∙ c.if-is_fault.true) c.in-Err.ensures.call

pub returns-else-is_fault-clause-call : goal.returns-else-is_fault-clause-call
returns-else-is_fault-clause-call g c = job_short (λ s. DeliverEvents s c.args.job.cid (found_in c.args.found)) (λ s. DeliverShort s c.args.job.cid) (Rose (g.K.Keeper.own c.args.replica.now.keeper) (g.K.Keeper.own c.deliver.new.self.keeper)) c.in-Err.error _ _ (sym c.is_fault.ensures ∙ c.if-is_fault.false) (runs_where _ _ _ _ c.requires.runs) c.in-Err.ensures.call

pub returns-then-is_fault-clause-short : goal.returns-then-is_fault-clause-short
returns-then-is_fault-clause-short g c = λ short. absurd (false≢true (sym (ap is_keeper short)))

pub returns-else-is_fault-clause-short : goal.returns-else-is_fault-clause-short
returns-else-is_fault-clause-short g c = λ short. left_delivery c.in-Err.error c.args.replica.now.stopped _ _ c.args.job.cid c.requires.runs c.in-Err.ensures.seen c.in-Err.ensures.front (sym c.is_fault.ensures ∙ c.if-is_fault.false) c.in-Err.ensures.wants
