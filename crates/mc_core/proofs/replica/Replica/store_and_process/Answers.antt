use Rattle.std.proofs.Common.{◌≡◌, [], ◌∷◌, Bool, arith, subst, sym}
use Rattle.std.specs.Prelude.{IfSome, OnOk}
use Rattle.mc_keep.specs.Changes.{changed}
use Rattle.mc_model.specs.Kept.{Kept}
use Rattle.mc_group.specs.Planning.{AreReady}
use Rattle.mc_model.specs.Events.{Store, Process}
use Rattle.mc_model.specs.State.{vertices}
use Rattle.mc_model.specs.Wanted.{without}
use Rattle.mc_queue.specs.declared.queue.Queue.{Queue}
use Rattle.mc_queue.specs.Views.{shown}
use Rattle.mc_plan.specs.Uptakes.{wants}
use Rattle.mc_plan.proofs.PartFacts.{moved, part_more, part_then}
use Rattle.mc_core.proofs.Keeps.{commit_more}
use Rattle.mc_core.proofs.replica.Replica.store_and_process.Goals as goal

pub returns-in-Ok-clause-part : goal.returns-in-Ok-clause-part
returns-in-Ok-clause-part g c =
    part_then (Store (vertices c.args.store.store) ∷ []) (Process c.args.process.marks ∷ []) _ _ _ _ _ _ _ c.in-Ok.ensures.keeps.continues.keeper_goes.own_later c.in-Ok.ensures.part c.process_group.ensures.part

pub returns-in-Err-clause-part : goal.returns-in-Err-clause-part
returns-in-Err-clause-part g c = part_more _ _ (Store (vertices c.args.store.store) ∷ []) (Process c.args.process.marks ∷ []) _ _ _ (omega arith) c.in-Err.ensures.part

pub returns-in-Ok-clause-keeps : goal.returns-in-Ok-clause-keeps
returns-in-Ok-clause-keeps g c = commit_more c.in-Ok.ensures.keeps c.process_group.ensures.keeps

pub returns-in-Ok-clause-queue : goal.returns-in-Ok-clause-queue
returns-in-Ok-clause-queue g c =
    subst (λ (q : Queue). OnOk c.process_group.result (shown c.process_group.new.self.queue ≡ wants (without (shown q) c.args.cids.now) c.args.links.now)) c.in-Ok.ensures.queue_same c.process_group.ensures.queue

pub process_group-requires-clause-ready : goal.process_group-requires-clause-ready
process_group-requires-clause-ready g c =
    subst (λ (b : Bool). IfSome (g.K.Keeper.told c.commit_store.new.self.keeper) (λ (kept : Kept). AreReady kept b c.args.process c.args.links.now c.args.gaps)) (sym c.in-Ok.ensures.keeps.rest_same.whole_same)
    (moved (λ (kept : Kept). AreReady kept c.args.self.now.whole c.args.process c.args.links.now c.args.gaps) (λ (kept : Kept). changed kept c.args.store) _ _ c.in-Ok.ensures.keeps.continues.keeper_goes.silent c.in-Ok.ensures.told c.requires.ready)
