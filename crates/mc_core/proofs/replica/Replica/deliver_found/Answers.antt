use Rattle.std.proofs.Common.{refl, None, Ok}
use Rattle.std.specs.Prelude.{⊤}
use Rattle.mc_plan.proofs.DeliverFacts.{deliver_missing, deliver_short_sound}
use Rattle.mc_plan.proofs.JobFacts.{call_sound}
use Rattle.mc_core.proofs.Keeps.{still_on}
use Rattle.mc_fetch.specs.declared.job.Delivered.TheVariants.{Missing}
use Rattle.mc_plan.specs.Jobs.{DeliverEvents, DeliverShort}
use Rattle.mc_plan.specs.Reads.{read_refusal}
use Rattle.mc_plan.specs.Refusals.{Is}
use Rattle.mc_core.specs.Replica.{running_of}
use Rattle.mc_core.proofs.replica.Replica.deliver_found.Goals as goal

pub returns-in-Missing-clause-keeps : goal.returns-in-Missing-clause-keeps
returns-in-Missing-clause-keeps g c = still_on refl refl refl

pub returns-in-Missing-clause-call : goal.returns-in-Missing-clause-call
returns-in-Missing-clause-call g c = rw c.in-Missing.is (deliver_missing _ _ _ _ _ (running_of c.args.self.now) c.args.cid ⊤ c.requires.up refl refl c.requires.flight _ c.missing.ensures.queue)

pub invariant_of-self-clause-sound : goal.invariant_of-self-clause-sound
invariant_of-self-clause-sound g c =
    call_sound (λ s. Is (read_refusal s)) (λ s. DeliverEvents s c.args.cid None) (λ s. DeliverShort s c.args.cid) ⊤ (Ok Missing) (deliver_short_sound c.args.cid) _ _ (g.K.Keeper.fuse c.args.self.now.keeper) _ _ _ (running_of c.args.self.now) _ (λ none. none)
    (deliver_missing _ _ (g.K.Keeper.fuse c.args.self.now.keeper) _ _ (running_of c.args.self.now) c.args.cid ⊤ c.requires.up refl refl c.requires.flight _ c.missing.ensures.queue) c.args.self.now.sound
