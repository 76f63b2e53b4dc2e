use Rattle.std.proofs.Common.{◌∙◌, ap, refl, inl, Some, Err}
use Rattle.mc_core.specs.Deletes.{DeleteEvents, DeleteRefusal, DeleteShort}
use Rattle.mc_core.specs.Refusals.{key_refusal}
use Rattle.mc_node.specs.declared.note.Note.TheVariants.{Made}
use Rattle.mc_node.specs.Moves.{DeleteAdds}
use Rattle.mc_node.specs.Entries.{items_at}
use Rattle.mc_node.proofs.BoxFacts.{adds_in, kept_in, tied_in}
use Rattle.mc_node.proofs.PieceFacts.{right_on}
use Rattle.mc_node.proofs.CallFacts.{does_not_begin, front_short, leaves_same, unnoted_refusal}
use Rattle.mc_node.proofs.ReplicaFacts.{adds_begins, delete_goes, delete_more, delete_stays, open_unsealed, replica_ends}
use Rattle.mc_node.proofs.stored.Stored.delete.Goals as goal

pub returns-in-Err-clause-does : goal.returns-in-Err-clause-does
returns-in-Err-clause-does g c =
    does_not_begin (Some Made) (Some Made) (λ s. DeleteRefusal s c.args.key.now) (λ s. DeleteEvents s c.args.key.now) (λ s. DeleteShort s c.args.key.now) (λ durable fuse. refl) (λ s. inl refl) (DeleteAdds c.args.key.now (Err c.in-Err.error)) (delete_stays c.args.key.now c.in-Err.error) (key_refusal c.args.key.now) _ _ _ _ c.in-Err.error
    c.args.self.now.tied c.in-Err.ensures.refused (ap (items_at g.K.Keeper.told g.K.Keeper.fuse g.K.Keeper.own g.K.Counted.faults g.K.Keeper.quiet g.K.Keeper.schedule) c.in-Err.ensures.log)

pub invariant_of-self : goal.invariant_of-self
invariant_of-self g c = record {
  tied = (replica_ends g.K.Keeper.told g.K.Keeper.fuse g.K.Keeper.own g.K.Counted.faults g.K.Keeper.quiet g.K.Keeper.schedule
      c.replicas_only_grow.ensures.goes c.replicas_only_grow.ensures.breaks c.kept_is_durable.ensures.back (Some Made) (Some Made) (λ s. DeleteRefusal s c.args.key.now) (λ s. DeleteEvents s c.args.key.now) (λ s. DeleteShort s c.args.key.now) (delete_goes c.replicas_only_grow.ensures.goes c.args.key.now)
      (DeleteAdds c.args.key.now c.delete-result.result) (key_refusal c.args.key.now) _ c.deref_mut.result.now c.delete-result.new.self c.args.self.now.log.items c.begin.new.self.log.items c.note.new.log.items c.noted-entry.result c.delete-result.result
      (tied_in g.K.Keeper.told g.K.Keeper.fuse g.K.Keeper.own g.K.Counted.faults g.K.Keeper.quiet g.K.Keeper.schedule _ _ _ _ c.deref_mut.ensures.value c.begin.new.self.tied) c.in-Ok.ensures.log (ap (λ r. r.stopped) c.deref_mut.ensures.value ∙ c.in-Ok.ensures.runs) (kept_in g.K.Keeper.told _ _ _ c.deref_mut.ensures.value c.deref.ensures c.is_sound.ensures.kept) c.delete-result.ensures.call
      (delete_more c.args.key.now c.delete-result.result _ _ c.delete-result.ensures.made c.delete-result.ensures.short) c.delete-result.ensures.keeps c.delete-result.ensures.rest
      (front_short c.delete-result.result _ _ c.delete-result.ensures.front (ap (λ r. r.stopped) c.deref_mut.ensures.value ∙ c.in-Ok.ensures.runs))
      (open_unsealed g.K.Keeper.told g.K.Keeper.fuse g.K.Keeper.own g.K.Counted.faults g.K.Keeper.quiet g.K.Keeper.schedule _ _ c.in-Ok.ensures.log c.requires.unsealed) (refl, refl, open_unsealed g.K.Keeper.told g.K.Keeper.fuse g.K.Keeper.own g.K.Counted.faults g.K.Keeper.quiet g.K.Keeper.schedule _ _ c.in-Ok.ensures.log c.requires.unsealed) (refl, refl, open_unsealed g.K.Keeper.told g.K.Keeper.fuse g.K.Keeper.own g.K.Counted.faults g.K.Keeper.quiet g.K.Keeper.schedule _ _ c.in-Ok.ensures.log c.requires.unsealed) c.noted-entry.ensures (adds_in c.noted-entry.result _ _ _ _ c.deref-2.ensures c.note.ensures.adds)
      (λ none. leaves_same g.K.Keeper.told g.K.Keeper.fuse g.K.Keeper.own g.K.Counted.faults g.K.Keeper.quiet g.K.Keeper.schedule _ _ (unnoted_refusal _ Made Made c.delete-result.result c.delete-result.ensures.refused none) c.delete-result.ensures.rest)).0;
  right = right_on c.begin.new.self.taker g.J.Naming.found _ _ (c.delete-result.ensures.rest.inbox_same ∙ ap (λ r. r.inbox) c.deref_mut.ensures.value) c.begin.new.self.right;
}

pub returns-clause-extends : goal.returns-clause-extends
returns-clause-extends g c = adds_begins c.noted-entry.result c.delete-result.new.self _ _ _ c.in-Ok.ensures.log (adds_in c.noted-entry.result _ _ _ _ c.deref-2.ensures c.note.ensures.adds)

pub returns-clause-does : goal.returns-clause-does
returns-clause-does g c = (replica_ends g.K.Keeper.told g.K.Keeper.fuse g.K.Keeper.own g.K.Counted.faults g.K.Keeper.quiet g.K.Keeper.schedule
    c.replicas_only_grow.ensures.goes c.replicas_only_grow.ensures.breaks c.kept_is_durable.ensures.back (Some Made) (Some Made) (λ s. DeleteRefusal s c.args.key.now) (λ s. DeleteEvents s c.args.key.now) (λ s. DeleteShort s c.args.key.now) (delete_goes c.replicas_only_grow.ensures.goes c.args.key.now)
    (DeleteAdds c.args.key.now c.delete-result.result) (key_refusal c.args.key.now) _ c.deref_mut.result.now c.delete-result.new.self c.args.self.now.log.items c.begin.new.self.log.items c.note.new.log.items c.noted-entry.result c.delete-result.result
    (tied_in g.K.Keeper.told g.K.Keeper.fuse g.K.Keeper.own g.K.Counted.faults g.K.Keeper.quiet g.K.Keeper.schedule _ _ _ _ c.deref_mut.ensures.value c.begin.new.self.tied) c.in-Ok.ensures.log (ap (λ r. r.stopped) c.deref_mut.ensures.value ∙ c.in-Ok.ensures.runs) (kept_in g.K.Keeper.told _ _ _ c.deref_mut.ensures.value c.deref.ensures c.is_sound.ensures.kept) c.delete-result.ensures.call
    (delete_more c.args.key.now c.delete-result.result _ _ c.delete-result.ensures.made c.delete-result.ensures.short) c.delete-result.ensures.keeps c.delete-result.ensures.rest
    (front_short c.delete-result.result _ _ c.delete-result.ensures.front (ap (λ r. r.stopped) c.deref_mut.ensures.value ∙ c.in-Ok.ensures.runs))
    (open_unsealed g.K.Keeper.told g.K.Keeper.fuse g.K.Keeper.own g.K.Counted.faults g.K.Keeper.quiet g.K.Keeper.schedule _ _ c.in-Ok.ensures.log c.requires.unsealed) (refl, refl, open_unsealed g.K.Keeper.told g.K.Keeper.fuse g.K.Keeper.own g.K.Counted.faults g.K.Keeper.quiet g.K.Keeper.schedule _ _ c.in-Ok.ensures.log c.requires.unsealed) (refl, refl, open_unsealed g.K.Keeper.told g.K.Keeper.fuse g.K.Keeper.own g.K.Counted.faults g.K.Keeper.quiet g.K.Keeper.schedule _ _ c.in-Ok.ensures.log c.requires.unsealed) c.noted-entry.ensures (adds_in c.noted-entry.result _ _ _ _ c.deref-2.ensures c.note.ensures.adds)
    (λ none. leaves_same g.K.Keeper.told g.K.Keeper.fuse g.K.Keeper.own g.K.Counted.faults g.K.Keeper.quiet g.K.Keeper.schedule _ _ (unnoted_refusal _ Made Made c.delete-result.result c.delete-result.ensures.refused none) c.delete-result.ensures.rest)).1
