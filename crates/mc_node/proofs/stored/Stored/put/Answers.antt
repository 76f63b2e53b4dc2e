use Rattle.std.proofs.Common.{◌∙◌, ap, refl, Some, None, Err}
use Rattle.mc_core.specs.Calls.{Stays}
use Rattle.mc_core.specs.Exact.{put_front}
use Rattle.mc_core.specs.Puts.{PutEvents, put_refusal}
use Rattle.mc_core.specs.Refusals.{Is}
use Rattle.mc_node.specs.declared.note.Note.TheVariants.{Made}
use Rattle.mc_node.specs.Moves.{PutAdds}
use Rattle.mc_node.specs.Entries.{items_at}
use Rattle.mc_node.proofs.BoxFacts.{adds_in, kept_in, tied_in}
use Rattle.mc_node.proofs.PieceFacts.{right_on}
use Rattle.mc_node.proofs.CallFacts.{does_not_begin, front_short, leaves_same, stays_goes, unnoted}
use Rattle.mc_node.proofs.ReplicaFacts.{adds_begins, open_unsealed, put_more, replica_ends}
use Rattle.mc_node.proofs.stored.Stored.put.Goals as goal

pub returns-in-Err-clause-does : goal.returns-in-Err-clause-does
returns-in-Err-clause-does g c =
    does_not_begin (Some Made) None (λ s. Is (put_refusal s c.args.key.now c.args.value.now)) (λ s. PutEvents s c.args.key.now c.args.value.now) Stays (λ durable fuse. refl) (λ s. refl) (PutAdds c.args.key.now c.args.value.now (Err c.in-Err.error)) (λ s. tt) (put_front c.args.key.now c.args.value.now) _ _ _ _ c.in-Err.error
    c.args.self.now.tied c.in-Err.ensures.refused (ap (items_at g.K.Keeper.told g.K.Keeper.fuse g.K.Keeper.own g.K.Counted.faults g.K.Keeper.quiet g.K.Keeper.schedule) c.in-Err.ensures.log)

pub invariant_of-self : goal.invariant_of-self
invariant_of-self g c = record {
  tied = (replica_ends g.K.Keeper.told g.K.Keeper.fuse g.K.Keeper.own g.K.Counted.faults g.K.Keeper.quiet g.K.Keeper.schedule
      c.replicas_only_grow.ensures.goes c.replicas_only_grow.ensures.breaks c.kept_is_durable.ensures.back (Some Made) None (λ s. Is (put_refusal s c.args.key.now c.args.value.now)) (λ s. PutEvents s c.args.key.now c.args.value.now) Stays stays_goes
      (PutAdds c.args.key.now c.args.value.now c.put-result.result) (put_front c.args.key.now c.args.value.now) _ c.deref_mut.result.now c.put-result.new.self c.args.self.now.log.items c.begin.new.self.log.items c.note.new.log.items c.noted-entry.result c.put-result.result
      (tied_in g.K.Keeper.told g.K.Keeper.fuse g.K.Keeper.own g.K.Counted.faults g.K.Keeper.quiet g.K.Keeper.schedule _ _ _ _ c.deref_mut.ensures.value c.begin.new.self.tied) c.in-Ok.ensures.log (ap (λ r. r.stopped) c.deref_mut.ensures.value ∙ c.in-Ok.ensures.runs) (kept_in g.K.Keeper.told _ _ _ c.deref_mut.ensures.value c.deref.ensures c.is_sound.ensures.kept) c.put-result.ensures.call
      (put_more _ c.args.key.now c.args.value.now c.put-result.result _ _ c.put-result.ensures.call c.put-result.ensures.made) c.put-result.ensures.keeps c.put-result.ensures.rest
      (front_short c.put-result.result _ _ c.put-result.ensures.front (ap (λ r. r.stopped) c.deref_mut.ensures.value ∙ c.in-Ok.ensures.runs))
      (open_unsealed g.K.Keeper.told g.K.Keeper.fuse g.K.Keeper.own g.K.Counted.faults g.K.Keeper.quiet g.K.Keeper.schedule _ _ c.in-Ok.ensures.log c.requires.unsealed) (refl, refl, open_unsealed g.K.Keeper.told g.K.Keeper.fuse g.K.Keeper.own g.K.Counted.faults g.K.Keeper.quiet g.K.Keeper.schedule _ _ c.in-Ok.ensures.log c.requires.unsealed) tt c.noted-entry.ensures (adds_in c.noted-entry.result _ _ _ _ c.deref-2.ensures c.note.ensures.adds)
      (λ none. leaves_same g.K.Keeper.told g.K.Keeper.fuse g.K.Keeper.own g.K.Counted.faults g.K.Keeper.quiet g.K.Keeper.schedule _ _ (unnoted _ Made c.put-result.result c.put-result.ensures.refused none) c.put-result.ensures.rest)).0;
  right = right_on c.begin.new.self.taker g.J.Naming.found _ _ (c.put-result.ensures.rest.inbox_same ∙ ap (λ r. r.inbox) c.deref_mut.ensures.value) c.begin.new.self.right;
}

pub returns-clause-extends : goal.returns-clause-extends
returns-clause-extends g c = adds_begins c.noted-entry.result c.put-result.new.self _ _ _ c.in-Ok.ensures.log (adds_in c.noted-entry.result _ _ _ _ c.deref-2.ensures c.note.ensures.adds)

pub returns-clause-does : goal.returns-clause-does
returns-clause-does g c = (replica_ends g.K.Keeper.told g.K.Keeper.fuse g.K.Keeper.own g.K.Counted.faults g.K.Keeper.quiet g.K.Keeper.schedule
    c.replicas_only_grow.ensures.goes c.replicas_only_grow.ensures.breaks c.kept_is_durable.ensures.back (Some Made) None (λ s. Is (put_refusal s c.args.key.now c.args.value.now)) (λ s. PutEvents s c.args.key.now c.args.value.now) Stays stays_goes
    (PutAdds c.args.key.now c.args.value.now c.put-result.result) (put_front c.args.key.now c.args.value.now) _ c.deref_mut.result.now c.put-result.new.self c.args.self.now.log.items c.begin.new.self.log.items c.note.new.log.items c.noted-entry.result c.put-result.result
    (tied_in g.K.Keeper.told g.K.Keeper.fuse g.K.Keeper.own g.K.Counted.faults g.K.Keeper.quiet g.K.Keeper.schedule _ _ _ _ c.deref_mut.ensures.value c.begin.new.self.tied) c.in-Ok.ensures.log (ap (λ r. r.stopped) c.deref_mut.ensures.value ∙ c.in-Ok.ensures.runs) (kept_in g.K.Keeper.told _ _ _ c.deref_mut.ensures.value c.deref.ensures c.is_sound.ensures.kept) c.put-result.ensures.call
    (put_more _ c.args.key.now c.args.value.now c.put-result.result _ _ c.put-result.ensures.call c.put-result.ensures.made) c.put-result.ensures.keeps c.put-result.ensures.rest
    (front_short c.put-result.result _ _ c.put-result.ensures.front (ap (λ r. r.stopped) c.deref_mut.ensures.value ∙ c.in-Ok.ensures.runs))
    (open_unsealed g.K.Keeper.told g.K.Keeper.fuse g.K.Keeper.own g.K.Counted.faults g.K.Keeper.quiet g.K.Keeper.schedule _ _ c.in-Ok.ensures.log c.requires.unsealed) (refl, refl, open_unsealed g.K.Keeper.told g.K.Keeper.fuse g.K.Keeper.own g.K.Counted.faults g.K.Keeper.quiet g.K.Keeper.schedule _ _ c.in-Ok.ensures.log c.requires.unsealed) tt c.noted-entry.ensures (adds_in c.noted-entry.result _ _ _ _ c.deref-2.ensures c.note.ensures.adds)
    (λ none. leaves_same g.K.Keeper.told g.K.Keeper.fuse g.K.Keeper.own g.K.Counted.faults g.K.Keeper.quiet g.K.Keeper.schedule _ _ (unnoted _ Made c.put-result.result c.put-result.ensures.refused none) c.put-result.ensures.rest)).1
