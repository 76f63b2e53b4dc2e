use Rattle.mc_plan.specs.Puts.{put_refusal, PutEvents}
use Rattle.mc_plan.specs.Refusals.{Is}
use Rattle.mc_plan.proofs.CallFacts.{early_call, part_call}
use Rattle.mc_plan.specs.Puts.{delta_of_put}
use Rattle.mc_plan.proofs.MadeFacts.{put_made}
use Rattle.mc_plan.proofs.PutFacts.{put_due, put_plan}
use Rattle.std.proofs.Common.{refl}
use Rattle.mc_core.proofs.Keeps.{continues_more, looks_on, still_on, stops_once}
use Rattle.mc_core.specs.Replica.{running_of}
use Rattle.mc_plan.proofs.SoundFacts.{looks_down}
use Rattle.mc_core.proofs.replica.Replica.put.Goals as goal

pub returns-in-Ok-clause-call : goal.returns-in-Ok-clause-call
returns-in-Ok-clause-call g c =
    part_call (λ s. Is (put_refusal s c.args.key.now c.args.value.now)) (λ s. PutEvents s c.args.key.now c.args.value.now) _ _ _ _ _ _ _ _ _ _ _ _ _ c.if-self.false c.in-Ok.ensures.reads.told_same c.in-Ok.ensures.reads.fuse_same c.in-Ok.ensures.reads.own_goes.later
    (put_plan c.kept_is_durable.ensures.back _ (g.K.Keeper.fuse c.args.self.now.keeper) (running_of c.args.self.now) _ _ _ c.in-Ok.ensures.allowed c.in-Ok.ensures.planned) c.take_up.ensures.answer c.take_up.ensures.only c.take_up.ensures.part

pub returns-in-Err-clause-call : goal.returns-in-Err-clause-call
returns-in-Err-clause-call g c =
    early_call (λ s. Is (put_refusal s c.args.key.now c.args.value.now)) (λ s. PutEvents s c.args.key.now c.args.value.now) _ _ _ _ _ _ _ _ _ c.if-self.false c.in-Err.ensures.reads.told_same c.in-Err.ensures.reads.fuse_same c.stops-self.ensures
    c.in-Err.ensures.reads.own_goes.rose (put_due c.kept_is_durable.ensures.back _ (g.K.Keeper.fuse c.args.self.now.keeper) (running_of c.args.self.now) c.args.key.now c.args.value.now _ c.in-Err.ensures.refused)

pub returns-in-Ok-clause-made : goal.returns-in-Ok-clause-made
returns-in-Ok-clause-made g c =
    put_made c.kept_is_durable.ensures.back c.commits_are_events.ensures.sound c.changes_fit.ensures.stored c.changes_fit.ensures.same c.kept_is_durable.ensures.made_links
    (λ kept. delta_of_put kept c.args.key.now c.args.value.now) _ _ _ _ _ _ _ _ _ _ c.if-self.false c.in-Ok.ensures.reads.told_same c.in-Ok.ensures.reads.fuse_same c.is_sound.ensures c.in-Ok.ensures.planned c.take_up.ensures.part

pub returns-then-self-clause-keeps : goal.returns-then-self-clause-keeps
returns-then-self-clause-keeps g c = still_on refl refl refl

pub returns-in-Ok-clause-keeps : goal.returns-in-Ok-clause-keeps
returns-in-Ok-clause-keeps g c = continues_more (looks_on c.in-Ok.ensures.reads refl) c.take_up.ensures.keeps.continues

pub returns-in-Err-clause-keeps : goal.returns-in-Err-clause-keeps
returns-in-Err-clause-keeps g c = looks_on c.in-Err.ensures.reads (stops_once _ _ _ c.if-self.false c.stops-self.ensures)

pub invariant_of-self-in-Err-clause-sound : goal.invariant_of-self-in-Err-clause-sound
invariant_of-self-in-Err-clause-sound g c = looks_down _ _ _ _ (running_of c.args.self.now) c.if-self.false c.in-Err.ensures.reads.told_same c.args.self.now.sound
