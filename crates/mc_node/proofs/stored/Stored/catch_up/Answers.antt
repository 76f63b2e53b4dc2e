use Rattle.std.proofs.Common.{◌∙◌, ◌≡◌, ap, length, refl, None}
use Rattle.mc_core.specs.Calls.{Stays}
use Rattle.mc_core.specs.Reads.{OnlyReads, read_refusal}
use Rattle.mc_core.specs.Refusals.{Is}
use Rattle.mc_model.specs.Kept.{processed}
use Rattle.mc_node.specs.Moves.{NoMore, SeenOver}
use Rattle.mc_node.specs.Entries.{items_at, shown_at}
use Rattle.mc_node.specs.Items.{is_unsealed}
use Rattle.mc_node.proofs.BoxFacts.{adds_in, count_in, kept_in, tied_in}
use Rattle.mc_node.proofs.PieceFacts.{right_on}
use Rattle.mc_node.proofs.CallFacts.{does_not_begin}
use Rattle.mc_core.specs.Exact.{DecidesAlone}
use Rattle.mc_node.proofs.FaceFacts.{face_whole, seen_on_err}
use Rattle.mc_node.proofs.SeatFacts.{begins_on}
use Rattle.mc_node.proofs.ReplicaFacts.{adds_begins, open_unsealed, read_ends, seen_err, seen_ok}
use Rattle.mc_node.proofs.stored.Stored.catch_up.Goals as goal

pub returns-in-Err-clause-does : goal.returns-in-Err-clause-does
returns-in-Err-clause-does g c =
    does_not_begin None None (λ s. Is (read_refusal s)) (OnlyReads (SeenOver (λ kept count. c.args.face.now.list ≡ processed kept))) Stays (λ durable fuse. refl) (λ s. refl) NoMore (λ s. tt) None _ _ _ _ c.in-Err.error
    c.args.self.now.tied c.in-Err.ensures.refused (ap (items_at g.K.Keeper.told g.K.Keeper.fuse g.K.Keeper.own g.K.Counted.faults g.K.Keeper.quiet g.K.Keeper.schedule) c.in-Err.ensures.log)

pub invariant_of-self : goal.invariant_of-self
invariant_of-self g c = record {
  tied = (read_ends g.K.Keeper.told g.K.Keeper.fuse g.K.Keeper.own g.K.Counted.faults g.K.Keeper.quiet g.K.Keeper.schedule
      c.replicas_only_grow.ensures.goes c.replicas_only_grow.ensures.breaks c.kept_is_durable.ensures.back (λ s. Is (read_refusal s)) (λ kept count. c.catch_up-result.new.face.list ≡ processed kept) _
      _ c.deref_mut.result.now c.catch_up-result.new.self c.args.self.now.log.items c.begin.new.self.log.items c.note.new.log.items c.noted-entry.result c.catch_up-result.result _ refl
      (tied_in g.K.Keeper.told g.K.Keeper.fuse g.K.Keeper.own g.K.Counted.faults g.K.Keeper.quiet g.K.Keeper.schedule _ _ _ _ c.deref_mut.ensures.value c.begin.new.self.tied) c.in-Ok.ensures.log (ap (λ r. r.stopped) c.deref_mut.ensures.value ∙ c.in-Ok.ensures.runs) (kept_in g.K.Keeper.told _ _ _ c.deref_mut.ensures.value c.deref.ensures c.is_sound.ensures.kept) (count_in g.K.Keeper.told _ _ _ c.deref_mut.ensures.value c.in-Ok.ensures.length) c.catch_up-result.ensures.call
      c.catch_up-result.ensures.keeps c.catch_up-result.ensures.rest c.catch_up-result.ensures.front c.noted-entry.ensures (adds_in c.noted-entry.result _ _ _ _ c.deref-2.ensures c.note.ensures.adds) c.catch_up-result.ensures.same).0;
  right = right_on c.begin.new.self.taker g.J.Naming.found _ _ (c.catch_up-result.ensures.rest.inbox_same ∙ ap (λ r. r.inbox) c.deref_mut.ensures.value) c.begin.new.self.right;
}

pub returns-clause-extends : goal.returns-clause-extends
returns-clause-extends g c = adds_begins c.noted-entry.result c.catch_up-result.new.self _ _ _ c.in-Ok.ensures.log (adds_in c.noted-entry.result _ _ _ _ c.deref-2.ensures c.note.ensures.adds)

pub returns-clause-does : goal.returns-clause-does
returns-clause-does g c = (read_ends g.K.Keeper.told g.K.Keeper.fuse g.K.Keeper.own g.K.Counted.faults g.K.Keeper.quiet g.K.Keeper.schedule
    c.replicas_only_grow.ensures.goes c.replicas_only_grow.ensures.breaks c.kept_is_durable.ensures.back (λ s. Is (read_refusal s)) (λ kept count. c.catch_up-result.new.face.list ≡ processed kept) _
    _ c.deref_mut.result.now c.catch_up-result.new.self c.args.self.now.log.items c.begin.new.self.log.items c.note.new.log.items c.noted-entry.result c.catch_up-result.result c.seen.result c.seen.ensures
    (tied_in g.K.Keeper.told g.K.Keeper.fuse g.K.Keeper.own g.K.Counted.faults g.K.Keeper.quiet g.K.Keeper.schedule _ _ _ _ c.deref_mut.ensures.value c.begin.new.self.tied) c.in-Ok.ensures.log (ap (λ r. r.stopped) c.deref_mut.ensures.value ∙ c.in-Ok.ensures.runs) (kept_in g.K.Keeper.told _ _ _ c.deref_mut.ensures.value c.deref.ensures c.is_sound.ensures.kept) (count_in g.K.Keeper.told _ _ _ c.deref_mut.ensures.value c.in-Ok.ensures.length) c.catch_up-result.ensures.call
    c.catch_up-result.ensures.keeps c.catch_up-result.ensures.rest c.catch_up-result.ensures.front c.noted-entry.ensures (adds_in c.noted-entry.result _ _ _ _ c.deref-2.ensures c.note.ensures.adds) c.catch_up-result.ensures.same).1

pub returns-clause-seen : goal.returns-clause-seen
returns-clause-seen g c = rw c.seen.ensures (seen_err _ c.catch_up-result.result DecidesAlone c.catch_up-result.ensures.seen)

pub returns-clause-whole : goal.returns-clause-whole
returns-clause-whole g c unsealed =
    let ends = read_ends g.K.Keeper.told g.K.Keeper.fuse g.K.Keeper.own g.K.Counted.faults g.K.Keeper.quiet g.K.Keeper.schedule
    c.replicas_only_grow.ensures.goes c.replicas_only_grow.ensures.breaks c.kept_is_durable.ensures.back (λ s. Is (read_refusal s)) (λ kept count. c.catch_up-result.new.face.list ≡ processed kept) _
    _ c.deref_mut.result.now c.catch_up-result.new.self c.args.self.now.log.items c.begin.new.self.log.items c.note.new.log.items c.noted-entry.result c.catch_up-result.result c.seen.result c.seen.ensures
    (tied_in g.K.Keeper.told g.K.Keeper.fuse g.K.Keeper.own g.K.Counted.faults g.K.Keeper.quiet g.K.Keeper.schedule _ _ _ _ c.deref_mut.ensures.value c.begin.new.self.tied) c.in-Ok.ensures.log (ap (λ r. r.stopped) c.deref_mut.ensures.value ∙ c.in-Ok.ensures.runs) (kept_in g.K.Keeper.told _ _ _ c.deref_mut.ensures.value c.deref.ensures c.is_sound.ensures.kept) (count_in g.K.Keeper.told _ _ _ c.deref_mut.ensures.value c.in-Ok.ensures.length) c.catch_up-result.ensures.call
    c.catch_up-result.ensures.keeps c.catch_up-result.ensures.rest c.catch_up-result.ensures.front c.noted-entry.ensures (adds_in c.noted-entry.result _ _ _ _ c.deref-2.ensures c.note.ensures.adds) c.catch_up-result.ensures.same in
    face_whole c.kept_is_durable.ensures.back _
    (shown_at g.K.Keeper.told g.K.Keeper.fuse g.K.Keeper.own g.K.Counted.faults g.K.Keeper.quiet g.K.Keeper.schedule c.deref_mut.result.now)
    (shown_at g.K.Keeper.told g.K.Keeper.fuse g.K.Keeper.own g.K.Counted.faults g.K.Keeper.quiet g.K.Keeper.schedule c.catch_up-result.new.self)
    (items_at g.K.Keeper.told g.K.Keeper.fuse g.K.Keeper.own g.K.Counted.faults g.K.Keeper.quiet g.K.Keeper.schedule c.note.new.log.items)
    c.catch_up-result.new.face.list _ c.catch_up-result.result c.seen.result c.seen.ensures ends.0
    (open_unsealed g.K.Keeper.told g.K.Keeper.fuse g.K.Keeper.own g.K.Counted.faults g.K.Keeper.quiet g.K.Keeper.schedule c.note.new.log.items c.note.new.log.items refl
    (begins_on is_unsealed c.args.self.now.log.items c.note.new.log.items unsealed (adds_begins c.noted-entry.result c.catch_up-result.new.self _ _ _ c.in-Ok.ensures.log (adds_in c.noted-entry.result _ _ _ _ c.deref-2.ensures c.note.ensures.adds))))
    c.catch_up-result.ensures.same.told_same c.catch_up-result.ensures.list

pub returns-clause-count : goal.returns-clause-count
returns-clause-count g c = rw c.seen.ensures (seen_ok _ c.catch_up-result.result (λ count. count ≡ length c.catch_up-result.new.face.list) c.catch_up-result.ensures.count)

pub returns-clause-err : goal.returns-clause-err
returns-clause-err g c = rw c.seen.ensures (seen_on_err _ c.catch_up-result.result _ c.catch_up-result.ensures.err)
