use Rattle.std.proofs.Common.{◌∙◌, take, Ok, Err, true, false, refl, sym}
use Rattle.std.specs.Prelude.{⊤}
use Rattle.mc_base.specs.Causes.{Rose}
use Rattle.mc_group.specs.Inboxes.{GroupEvents}
use Rattle.mc_core.specs.Calls.{Stays}
use Rattle.mc_drain.proofs.JobFacts.{job_faults, job_short}
use Rattle.mc_drain.proofs.TakeFacts.{group_told, left_items, left_wants, lost_items, takes_few}
use Rattle.mc_drain.proofs.TurnFacts.{runs_where}
use Rattle.mc_drain.proofs.taking.take_in.Goals as goal

pub returns-in-Ok-clause-leads : goal.returns-in-Ok-clause-leads
returns-in-Ok-clause-leads g c = group_told c.order_and_store_grow.ensures c.found_drains_go_on.ensures.goes c.parts_stay_right.ensures.stay c.groups_are_drains.ensures.takes c.groups_are_drains.ensures.says c.groups_are_drains.ensures.few (take c.args.limit c.args.replica.now.inbox.items) c.args.limit ⊤ (Ok c.in-Ok.grouped) false _ _ (takes_few c.args.limit c.args.replica.now.inbox.items) refl c.is_sound.ensures.state c.in-Ok.ensures.call

pub returns-then-is_fault-clause-leads : goal.returns-then-is_fault-clause-leads
returns-then-is_fault-clause-leads g c = group_told c.order_and_store_grow.ensures c.found_drains_go_on.ensures.goes c.parts_stay_right.ensures.stay c.groups_are_drains.ensures.takes c.groups_are_drains.ensures.says c.groups_are_drains.ensures.few (take c.args.limit c.args.replica.now.inbox.items) c.args.limit (Rose (g.K.Keeper.own c.args.replica.now.keeper) (g.K.Keeper.own c.inbox_commit.new.self.keeper)) (Err c.in-Err.error) true _ _ (takes_few c.args.limit c.args.replica.now.inbox.items) (sym c.is_fault.ensures ∙ c.if-is_fault.true) c.is_sound.ensures.state c.in-Err.ensures.call

pub returns-else-is_fault-clause-leads : goal.returns-else-is_fault-clause-leads
returns-else-is_fault-clause-leads g c = group_told c.order_and_store_grow.ensures c.found_drains_go_on.ensures.goes c.parts_stay_right.ensures.stay c.groups_are_drains.ensures.takes c.groups_are_drains.ensures.says c.groups_are_drains.ensures.few (take c.args.limit c.args.replica.now.inbox.items) c.args.limit (Rose (g.K.Keeper.own c.args.replica.now.keeper) (g.K.Keeper.own c.inbox_commit.new.self.keeper)) (Err c.in-Err.error) false _ _ (takes_few c.args.limit c.args.replica.now.inbox.items) (sym c.is_fault.ensures ∙ c.if-is_fault.false) c.is_sound.ensures.state c.in-Err.ensures.call

pub returns-in-Ok-clause-call : goal.returns-in-Ok-clause-call
returns-in-Ok-clause-call g c = c.in-Ok.ensures.call

pub returns-then-is_fault-clause-call : goal.returns-then-is_fault-clause-call
returns-then-is_fault-clause-call g c = job_faults (λ s. GroupEvents s (take c.args.limit c.args.replica.now.inbox.items)) Stays (Rose (g.K.Keeper.own c.args.replica.now.keeper) (g.K.Keeper.own c.inbox_commit.new.self.keeper)) c.in-Err.error _ _ (sym c.is_fault.ensures ∙ c.if-is_fault.true) c.in-Err.ensures.call

pub returns-else-is_fault-clause-call : goal.returns-else-is_fault-clause-call
returns-else-is_fault-clause-call g c = job_short (λ s. GroupEvents s (take c.args.limit c.args.replica.now.inbox.items)) Stays (Rose (g.K.Keeper.own c.args.replica.now.keeper) (g.K.Keeper.own c.inbox_commit.new.self.keeper)) c.in-Err.error _ _ (sym c.is_fault.ensures ∙ c.if-is_fault.false) (runs_where _ _ _ _ c.requires.runs) c.in-Err.ensures.call

pub returns-then-is_fault-clause-items : goal.returns-then-is_fault-clause-items
returns-then-is_fault-clause-items g c = lost_items c.in-Err.error c.args.limit _ _ (sym c.is_fault.ensures ∙ c.if-is_fault.true) c.in-Err.ensures.items

pub returns-else-is_fault-clause-items : goal.returns-else-is_fault-clause-items
returns-else-is_fault-clause-items g c = left_items c.in-Err.error c.args.limit _ _ (sym c.is_fault.ensures ∙ c.if-is_fault.false) c.in-Err.ensures.items

pub returns-else-is_fault-clause-wants : goal.returns-else-is_fault-clause-wants
returns-else-is_fault-clause-wants g c = left_wants c.in-Err.error (take c.args.limit c.args.replica.now.inbox.items) _ _ (sym c.is_fault.ensures ∙ c.if-is_fault.false) c.in-Err.ensures.wants
