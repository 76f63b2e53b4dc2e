use Rattle.std.proofs.Common.{map, length, refl}
use Rattle.mc_inbox.specs.Groups.{store_events}
use Rattle.mc_inbox.specs.Waiting.{as_stored}
use Rattle.mc_group.specs.Storing.{KeepEvents}
use Rattle.mc_keep.proofs.Frames.{read_well}
use Rattle.mc_plan.specs.Reads.{read_refusal}
use Rattle.mc_plan.specs.Refusals.{Is}
use Rattle.mc_plan.proofs.CallFacts.{part_call}
use Rattle.mc_plan.proofs.FaultFacts.{same_fault}
use Rattle.mc_plan.proofs.SoundFacts.{looks_down}
use Rattle.mc_core.specs.Replica.{running_of}
use Rattle.mc_core.proofs.Keeps.{continues_more, looks_on, still_on, stops_once}
use Rattle.mc_core.proofs.StoreFacts.{keep_makes}
use Rattle.mc_core.proofs.replica.Replica.keep.Goals as goal

pub returns-then-self-clause-keeps : goal.returns-then-self-clause-keeps
returns-then-self-clause-keeps g c = still_on refl refl refl

pub returns-in-Ok-clause-call : goal.returns-in-Ok-clause-call
returns-in-Ok-clause-call g c =
    part_call (λ s. Is (read_refusal s)) (λ s. KeepEvents s (map as_stored c.args.blocks)) _ _ _ _ _ (running_of c.args.self.now) _ _ _ _ (store_events c.in-Ok.store.store) (length c.in-Ok.store.store) _ c.if-self.false c.in-Ok.ensures.reads.told_same c.in-Ok.ensures.reads.fuse_same c.in-Ok.ensures.reads.own_goes.later
    (keep_makes _ (g.K.Keeper.fuse c.args.self.now.keeper) (running_of c.args.self.now) c.in-Ok.store (map as_stored c.args.blocks) c.in-Ok.ensures.store) c.store.ensures.answer c.store.ensures.only c.store.ensures.part

pub returns-in-Ok-clause-keeps : goal.returns-in-Ok-clause-keeps
returns-in-Ok-clause-keeps g c = continues_more (looks_on c.in-Ok.ensures.reads refl) c.store.ensures.keeps.continues

pub returns-in-Err-clause-keeps : goal.returns-in-Err-clause-keeps
returns-in-Err-clause-keeps g c =
    looks_on (read_well c.in-Err.ensures.reads (same_fault _ _ c.from-error.ensures)) (stops_once _ _ _ c.if-self.false c.stops-self.ensures)

pub invariant_of-self-in-Err-clause-sound : goal.invariant_of-self-in-Err-clause-sound
invariant_of-self-in-Err-clause-sound g c = looks_down _ _ _ _ (running_of c.args.self.now) c.if-self.false c.in-Err.ensures.reads.told_same c.args.self.now.sound
