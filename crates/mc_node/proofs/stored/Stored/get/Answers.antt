use Rattle.std.proofs.Common.{◌∙◌, ◌≡◌, ap, refl, None}
use Rattle.mc_core.specs.Calls.{Stays}
use Rattle.mc_core.specs.Reads.{OnlyReads, read_refusal}
use Rattle.mc_core.specs.Refusals.{Is}
use Rattle.mc_model.specs.Kept.{processed}
use Rattle.mc_model.specs.Live.{value}
use Rattle.mc_node.specs.Moves.{NoMore, SeenOver}
use Rattle.mc_node.specs.Entries.{items_at}
use Rattle.mc_node.proofs.BoxFacts.{adds_in, count_in, kept_in, tied_in}
use Rattle.mc_node.proofs.PieceFacts.{right_on}
use Rattle.mc_node.proofs.CallFacts.{does_not_begin}
use Rattle.mc_core.specs.Exact.{DecidesAlone}
use Rattle.mc_node.proofs.ReplicaFacts.{adds_begins, read_ends, seen_err}
use Rattle.mc_node.proofs.stored.Stored.get.Goals as goal

pub returns-in-Err-clause-does : goal.returns-in-Err-clause-does
returns-in-Err-clause-does g c =
    does_not_begin None None (λ s. Is (read_refusal s)) (OnlyReads (SeenOver (λ kept found. found ≡ value (processed kept) c.args.key.now))) Stays (λ durable fuse. refl) (λ s. refl) NoMore (λ s. tt) None _ _ _ _ c.in-Err.error
    c.args.self.now.tied c.in-Err.ensures.refused (ap (items_at g.K.Keeper.told g.K.Keeper.fuse g.K.Keeper.own g.K.Counted.faults g.K.Keeper.quiet g.K.Keeper.schedule) c.in-Err.ensures.log)

pub invariant_of-self : goal.invariant_of-self
invariant_of-self g c = record {
  tied = (read_ends g.K.Keeper.told g.K.Keeper.fuse g.K.Keeper.own g.K.Counted.faults g.K.Keeper.quiet g.K.Keeper.schedule
      c.replicas_only_grow.ensures.goes c.replicas_only_grow.ensures.breaks c.kept_is_durable.ensures.back (λ s. Is (read_refusal s)) (λ kept found. found ≡ value (processed kept) c.args.key.now) _
      _ c.deref_mut.result.now c.get-result.new.self c.args.self.now.log.items c.begin.new.self.log.items c.note.new.log.items c.noted-entry.result c.get-result.result _ refl
      (tied_in g.K.Keeper.told g.K.Keeper.fuse g.K.Keeper.own g.K.Counted.faults g.K.Keeper.quiet g.K.Keeper.schedule _ _ _ _ c.deref_mut.ensures.value c.begin.new.self.tied) c.in-Ok.ensures.log (ap (λ r. r.stopped) c.deref_mut.ensures.value ∙ c.in-Ok.ensures.runs) (kept_in g.K.Keeper.told _ _ _ c.deref_mut.ensures.value c.deref.ensures c.is_sound.ensures.kept) (count_in g.K.Keeper.told _ _ _ c.deref_mut.ensures.value c.in-Ok.ensures.length) c.get-result.ensures.call
      c.get-result.ensures.keeps c.get-result.ensures.rest c.get-result.ensures.front c.noted-entry.ensures (adds_in c.noted-entry.result _ _ _ _ c.deref-2.ensures c.note.ensures.adds) c.get-result.ensures.same).0;
  right = right_on c.begin.new.self.taker g.J.Naming.found _ _ (c.get-result.ensures.rest.inbox_same ∙ ap (λ r. r.inbox) c.deref_mut.ensures.value) c.begin.new.self.right;
}

pub returns-clause-extends : goal.returns-clause-extends
returns-clause-extends g c = adds_begins c.noted-entry.result c.get-result.new.self _ _ _ c.in-Ok.ensures.log (adds_in c.noted-entry.result _ _ _ _ c.deref-2.ensures c.note.ensures.adds)

pub returns-clause-does : goal.returns-clause-does
returns-clause-does g c = (read_ends g.K.Keeper.told g.K.Keeper.fuse g.K.Keeper.own g.K.Counted.faults g.K.Keeper.quiet g.K.Keeper.schedule
    c.replicas_only_grow.ensures.goes c.replicas_only_grow.ensures.breaks c.kept_is_durable.ensures.back (λ s. Is (read_refusal s)) (λ kept found. found ≡ value (processed kept) c.args.key.now) _
    _ c.deref_mut.result.now c.get-result.new.self c.args.self.now.log.items c.begin.new.self.log.items c.note.new.log.items c.noted-entry.result c.get-result.result c.seen.result c.seen.ensures
    (tied_in g.K.Keeper.told g.K.Keeper.fuse g.K.Keeper.own g.K.Counted.faults g.K.Keeper.quiet g.K.Keeper.schedule _ _ _ _ c.deref_mut.ensures.value c.begin.new.self.tied) c.in-Ok.ensures.log (ap (λ r. r.stopped) c.deref_mut.ensures.value ∙ c.in-Ok.ensures.runs) (kept_in g.K.Keeper.told _ _ _ c.deref_mut.ensures.value c.deref.ensures c.is_sound.ensures.kept) (count_in g.K.Keeper.told _ _ _ c.deref_mut.ensures.value c.in-Ok.ensures.length) c.get-result.ensures.call
    c.get-result.ensures.keeps c.get-result.ensures.rest c.get-result.ensures.front c.noted-entry.ensures (adds_in c.noted-entry.result _ _ _ _ c.deref-2.ensures c.note.ensures.adds) c.get-result.ensures.same).1

pub returns-clause-seen : goal.returns-clause-seen
returns-clause-seen g c = rw c.seen.ensures (seen_err _ c.get-result.result DecidesAlone c.get-result.ensures.seen)
