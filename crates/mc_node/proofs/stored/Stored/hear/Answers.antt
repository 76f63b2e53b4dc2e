use Rattle.std.proofs.Common.{◌∙◌, ap, refl, Some, None}
use Rattle.mc_core.specs.Calls.{Stays}
use Rattle.mc_core.specs.Hears.{HearEvents, cast_refusal, hear_refusal}
use Rattle.mc_core.specs.Refusals.{Is}
use Rattle.mc_node.specs.declared.note.Note.TheVariants.{Heard}
use Rattle.mc_node.specs.Moves.{NoMore}
use Rattle.mc_node.specs.Items.{last}
use Rattle.mc_node.proofs.BoxFacts.{adds_in, kept_in, tied_in}
use Rattle.mc_node.proofs.PieceFacts.{right_on}
use Rattle.mc_node.proofs.ReplicaFacts.{hear_leaves, hear_takes}
use Rattle.mc_node.specs.Entries.{items_at}
use Rattle.mc_node.proofs.CallFacts.{does_not_begin, stays_goes}
use Rattle.mc_node.proofs.ReplicaFacts.{adds_begins, no_more, open_unsealed, replica_ends}
use Rattle.mc_node.proofs.stored.Stored.hear.Goals as goal

pub returns-in-Err-clause-does : goal.returns-in-Err-clause-does
returns-in-Err-clause-does g c = record {
  does = does_not_begin (Some Heard) None (λ s. Is (hear_refusal s c.args.message.now)) (λ s. HearEvents s c.args.message.now) Stays (λ durable fuse. refl) (λ s. refl) NoMore (λ s. tt) (cast_refusal c.args.message.now) _ _ _ _ c.in-Err.error
      c.args.self.now.tied c.in-Err.ensures.refused (ap (items_at g.K.Keeper.told g.K.Keeper.fuse g.K.Keeper.own g.K.Counted.faults g.K.Keeper.quiet g.K.Keeper.schedule) c.in-Err.ensures.log);
  wants = ap (λ l. (last (items_at g.K.Keeper.told g.K.Keeper.fuse g.K.Keeper.own g.K.Counted.faults g.K.Keeper.quiet g.K.Keeper.schedule l)).run.queue) c.in-Err.ensures.log;
}

pub invariant_of-self : goal.invariant_of-self
invariant_of-self g c = record {
  tied = (replica_ends g.K.Keeper.told g.K.Keeper.fuse g.K.Keeper.own g.K.Counted.faults g.K.Keeper.quiet g.K.Keeper.schedule
      c.replicas_only_grow.ensures.goes c.replicas_only_grow.ensures.breaks c.kept_is_durable.ensures.back (Some Heard) None (λ s. Is (hear_refusal s c.args.message.now)) (λ s. HearEvents s c.args.message.now) Stays stays_goes
      NoMore (cast_refusal c.args.message.now) _ c.deref_mut.result.now c.hear-result.new.self c.args.self.now.log.items c.begin.new.self.log.items c.note.new.log.items c.noted-entry.result c.hear-result.result
      (tied_in g.K.Keeper.told g.K.Keeper.fuse g.K.Keeper.own g.K.Counted.faults g.K.Keeper.quiet g.K.Keeper.schedule _ _ _ _ c.deref_mut.ensures.value c.begin.new.self.tied) c.in-Ok.ensures.log (ap (λ r. r.stopped) c.deref_mut.ensures.value ∙ c.in-Ok.ensures.runs) (kept_in g.K.Keeper.told _ _ _ c.deref_mut.ensures.value c.deref.ensures c.is_sound.ensures.kept) c.hear-result.ensures.call
      (no_more _ _ _ c.hear-result.ensures.call) c.hear-result.ensures.keeps c.hear-result.ensures.rest
      c.hear-result.ensures.front
      (open_unsealed g.K.Keeper.told g.K.Keeper.fuse g.K.Keeper.own g.K.Counted.faults g.K.Keeper.quiet g.K.Keeper.schedule _ _ c.in-Ok.ensures.log c.requires.unsealed) (refl, refl, open_unsealed g.K.Keeper.told g.K.Keeper.fuse g.K.Keeper.own g.K.Counted.faults g.K.Keeper.quiet g.K.Keeper.schedule _ _ c.in-Ok.ensures.log c.requires.unsealed) tt c.noted-entry.ensures (adds_in c.noted-entry.result _ _ _ _ c.deref-2.ensures c.note.ensures.adds)
      (λ none. hear_leaves g.K.Keeper.told g.K.Keeper.fuse g.K.Keeper.own g.K.Counted.faults g.K.Keeper.quiet g.K.Keeper.schedule c.args.message.now _ _ c.hear-result.result none c.hear-result.ensures.tells c.hear-result.ensures.wants c.hear-result.ensures.rest)).0;
  right = right_on c.begin.new.self.taker g.J.Naming.found _ _ (c.hear-result.ensures.rest.inbox_same ∙ ap (λ r. r.inbox) c.deref_mut.ensures.value) c.begin.new.self.right;
}

pub returns-clause-extends : goal.returns-clause-extends
returns-clause-extends g c = adds_begins c.noted-entry.result c.hear-result.new.self _ _ _ c.in-Ok.ensures.log (adds_in c.noted-entry.result _ _ _ _ c.deref-2.ensures c.note.ensures.adds)

pub returns-clause-does : goal.returns-clause-does
returns-clause-does g c =
    let both = (replica_ends g.K.Keeper.told g.K.Keeper.fuse g.K.Keeper.own g.K.Counted.faults g.K.Keeper.quiet g.K.Keeper.schedule
    c.replicas_only_grow.ensures.goes c.replicas_only_grow.ensures.breaks c.kept_is_durable.ensures.back (Some Heard) None (λ s. Is (hear_refusal s c.args.message.now)) (λ s. HearEvents s c.args.message.now) Stays stays_goes
    NoMore (cast_refusal c.args.message.now) _ c.deref_mut.result.now c.hear-result.new.self c.args.self.now.log.items c.begin.new.self.log.items c.note.new.log.items c.noted-entry.result c.hear-result.result
    (tied_in g.K.Keeper.told g.K.Keeper.fuse g.K.Keeper.own g.K.Counted.faults g.K.Keeper.quiet g.K.Keeper.schedule _ _ _ _ c.deref_mut.ensures.value c.begin.new.self.tied) c.in-Ok.ensures.log (ap (λ r. r.stopped) c.deref_mut.ensures.value ∙ c.in-Ok.ensures.runs) (kept_in g.K.Keeper.told _ _ _ c.deref_mut.ensures.value c.deref.ensures c.is_sound.ensures.kept) c.hear-result.ensures.call
    (no_more _ _ _ c.hear-result.ensures.call) c.hear-result.ensures.keeps c.hear-result.ensures.rest
    c.hear-result.ensures.front
    (open_unsealed g.K.Keeper.told g.K.Keeper.fuse g.K.Keeper.own g.K.Counted.faults g.K.Keeper.quiet g.K.Keeper.schedule _ _ c.in-Ok.ensures.log c.requires.unsealed) (refl, refl, open_unsealed g.K.Keeper.told g.K.Keeper.fuse g.K.Keeper.own g.K.Counted.faults g.K.Keeper.quiet g.K.Keeper.schedule _ _ c.in-Ok.ensures.log c.requires.unsealed) tt c.noted-entry.ensures (adds_in c.noted-entry.result _ _ _ _ c.deref-2.ensures c.note.ensures.adds)
    (λ none. hear_leaves g.K.Keeper.told g.K.Keeper.fuse g.K.Keeper.own g.K.Counted.faults g.K.Keeper.quiet g.K.Keeper.schedule c.args.message.now _ _ c.hear-result.result none c.hear-result.ensures.tells c.hear-result.ensures.wants c.hear-result.ensures.rest)) in record {
      does = both.1;
      wants = hear_takes g.K.Keeper.told g.K.Keeper.fuse g.K.Keeper.own g.K.Counted.faults g.K.Keeper.quiet g.K.Keeper.schedule c.args.message.now _ _ c.deref_mut.result.now c.hear-result.new.self c.args.self.now.log.items c.begin.new.self.log.items c.note.new.log.items
          c.hear-result.result (tied_in g.K.Keeper.told g.K.Keeper.fuse g.K.Keeper.own g.K.Counted.faults g.K.Keeper.quiet g.K.Keeper.schedule _ _ _ _ c.deref_mut.ensures.value c.begin.new.self.tied) both.0 c.in-Ok.ensures.log c.requires.unsealed (adds_begins c.noted-entry.result c.hear-result.new.self _ _ _ c.in-Ok.ensures.log (adds_in c.noted-entry.result _ _ _ _ c.deref-2.ensures c.note.ensures.adds)) c.hear-result.ensures.wants;
    }
