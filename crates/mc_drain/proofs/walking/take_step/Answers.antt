use Rattle.std.proofs.Common.{◌∙◌, Bool, ap, false, true, Ok, Err, refl, sym}
use Rattle.std.specs.Prelude.{⊤}
use Rattle.mc_base.specs.Causes.{Rose}
use Rattle.mc_drain.specs.Repairs.{step_commits}
use Rattle.mc_drain.proofs.WalkFacts.{step_flight, walk_told}
use Rattle.mc_drain.proofs.walking.take_step.Goals as goal

pub returns-then-is_fault-clause-walks : goal.returns-then-is_fault-clause-walks
returns-then-is_fault-clause-walks g c =
    walk_told c.order_and_store_grow.ensures c.found_repairs_go_on.ensures.walks (Rose (g.K.Keeper.own c.args.replica.now.keeper) (g.K.Keeper.own c.walk_step.new.self.keeper)) (Err c.in-Err.error) true 1 _ _ (sym c.is_fault.ensures ∙ c.if-is_fault.true) refl c.is_sound.ensures.state
    c.in-Err.ensures.call

pub returns-else-is_fault-clause-walks : goal.returns-else-is_fault-clause-walks
returns-else-is_fault-clause-walks g c =
    walk_told c.order_and_store_grow.ensures c.found_repairs_go_on.ensures.walks (Rose (g.K.Keeper.own c.args.replica.now.keeper) (g.K.Keeper.own c.walk_step.new.self.keeper)) (Err c.in-Err.error) false 1 _ _ (sym c.is_fault.ensures ∙ c.if-is_fault.false) refl c.is_sound.ensures.state
    c.in-Err.ensures.call

pub returns-in-Ok-clause-walks : goal.returns-in-Ok-clause-walks
returns-in-Ok-clause-walks g c = walk_told c.order_and_store_grow.ensures c.found_repairs_go_on.ensures.walks ⊤ (Ok c.in-Ok.step) false _ _ _ refl (ap (λ (last : Bool). step_commits (Ok last)) (sym c.is_last.ensures)) c.is_sound.ensures.state c.in-Ok.ensures.call

pub returns-in-Ok-clause-flight : goal.returns-in-Ok-clause-flight
returns-in-Ok-clause-flight g c = step_flight c.in-Ok.step _ _ c.in-Ok.ensures.step.wants_more
