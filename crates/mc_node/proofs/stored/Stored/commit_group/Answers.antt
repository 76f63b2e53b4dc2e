use Rattle.std.proofs.Common.{◌≡◌, ◌≤◌, ◌+◌, ◌∙◌, ap, arith, false, length, refl, subst, sym, take, vec_capacity, vec_len}
use Rattle.std.proofs.lemmas.List.{length-take}
use Rattle.mc_core.specs.Calls.{Stays}
use Rattle.mc_group.specs.Inboxes.{GroupEvents}
use Rattle.mc_drain.specs.Words.{begin_failed}
use Rattle.mc_node.specs.Entries.{items_at, shown_at}
use Rattle.mc_node.specs.Fillings.{CommitsGroup}
use Rattle.mc_node.specs.Pieces.{GroupWants}
use Rattle.mc_node.proofs.BoxFacts.{adds_in, count_in, kept_in, tied_in}
use Rattle.mc_node.proofs.FillFacts.{first_taken}
use Rattle.mc_node.proofs.GroupFacts.{broken_answer, counted_few, group_left, group_told, group_wants, ok_answer, ok_both, ok_unnoted, ok_weaker, taken_right}
use Rattle.mc_node.proofs.JobFacts.{job_ends}
use Rattle.mc_node.proofs.PieceFacts.{items_right, right_of, right_take}
use Rattle.mc_node.proofs.ReplicaFacts.{adds_begins}
use Rattle.mc_node.proofs.ServeFacts.{job_serves}
use Rattle.mc_node.proofs.stored.Stored.commit_group.Goals as goal

pub invariant_of-self : goal.invariant_of-self
invariant_of-self g c = record {
  tied = job_ends g.K.Keeper.told g.K.Keeper.fuse g.K.Keeper.own g.K.Counted.faults g.K.Keeper.quiet g.K.Keeper.schedule c.kept_is_durable.ensures.back _ c.deref_mut.result.now c.take_in-result.new.replica c.args.self.now.log.items c.args.self.now.log.items c.note.new.log.items c.halted-entry.result
      (begin_failed c.take_in-result.result) false (tied_in g.K.Keeper.told g.K.Keeper.fuse g.K.Keeper.own g.K.Counted.faults g.K.Keeper.quiet g.K.Keeper.schedule _ _ _ _ c.deref_mut.ensures.value c.args.self.now.tied) refl c.requires.sealed (ap (λ r. r.stopped) c.deref_mut.ensures.value ∙ c.requires.runs) (kept_in g.K.Keeper.told _ _ _ c.deref_mut.ensures.value c.deref.ensures c.is_sound.ensures.kept) c.take_in-result.ensures.keeps c.take_in-result.ensures.rest
      (group_told _ c.args.limit c.args.processed c.min-most.result _ (take c.min-most.result c.deref_mut.result.now.inbox.items) _ _ _ _ _ c.requires.limit (right_take g.J.Naming.found c.min-most.result _ (right_of c.args.self.now.taker _ c.requires.relay (items_right c.args.self.now.taker g.J.Naming.found _ _ (ap (λ r. r.inbox.items) c.deref_mut.ensures.value) c.args.self.now.right))) c.requires.below (omega (arith, c.min-most.ensures)) (omega arith) (count_in g.K.Keeper.told _ _ _ c.deref_mut.ensures.value c.requires.count) c.take_in-result.ensures.leads)
      c.halted-entry.ensures (adds_in c.halted-entry.result _ _ _ _ c.deref-3.ensures c.note.ensures.adds);
  right = taken_right c.args.self.now.taker g.J.Naming.found c.take_in-result.result c.min-most.result _ _ c.take_in-result.ensures.items (items_right c.args.self.now.taker g.J.Naming.found _ _ (ap (λ r. r.inbox.items) c.deref_mut.ensures.value) c.args.self.now.right);
}

pub returns-clause-extends : goal.returns-clause-extends
returns-clause-extends g c = adds_begins c.halted-entry.result c.take_in-result.new.replica _ _ _ refl (adds_in c.halted-entry.result _ _ _ _ c.deref-3.ensures c.note.ensures.adds)

pub returns-clause-does : goal.returns-clause-does
returns-clause-does g c = subst (λ r. CommitsGroup c.args.limit c.args.processed c.answered.result r.inbox.items c.take_in-result.new.replica.inbox.items (items_at g.K.Keeper.told g.K.Keeper.fuse g.K.Keeper.own g.K.Counted.faults g.K.Keeper.quiet g.K.Keeper.schedule c.args.self.now.log.items) (shown_at g.K.Keeper.told g.K.Keeper.fuse g.K.Keeper.own g.K.Counted.faults g.K.Keeper.quiet g.K.Keeper.schedule r) (items_at g.K.Keeper.told g.K.Keeper.fuse g.K.Keeper.own g.K.Counted.faults g.K.Keeper.quiet g.K.Keeper.schedule c.note.new.log.items) (shown_at g.K.Keeper.told g.K.Keeper.fuse g.K.Keeper.own g.K.Counted.faults g.K.Keeper.quiet g.K.Keeper.schedule c.take_in-result.new.replica)) c.deref_mut.ensures.value (
    let tied = job_ends g.K.Keeper.told g.K.Keeper.fuse g.K.Keeper.own g.K.Counted.faults g.K.Keeper.quiet g.K.Keeper.schedule c.kept_is_durable.ensures.back _ c.deref_mut.result.now c.take_in-result.new.replica c.args.self.now.log.items c.args.self.now.log.items c.note.new.log.items c.halted-entry.result
    (begin_failed c.take_in-result.result) false (tied_in g.K.Keeper.told g.K.Keeper.fuse g.K.Keeper.own g.K.Counted.faults g.K.Keeper.quiet g.K.Keeper.schedule _ _ _ _ c.deref_mut.ensures.value c.args.self.now.tied) refl c.requires.sealed (ap (λ r. r.stopped) c.deref_mut.ensures.value ∙ c.requires.runs) (kept_in g.K.Keeper.told _ _ _ c.deref_mut.ensures.value c.deref.ensures c.is_sound.ensures.kept) c.take_in-result.ensures.keeps c.take_in-result.ensures.rest
    (group_told _ c.args.limit c.args.processed c.min-most.result _ (take c.min-most.result c.deref_mut.result.now.inbox.items) _ _ _ _ _ c.requires.limit (right_take g.J.Naming.found c.min-most.result _ (right_of c.args.self.now.taker _ c.requires.relay (items_right c.args.self.now.taker g.J.Naming.found _ _ (ap (λ r. r.inbox.items) c.deref_mut.ensures.value) c.args.self.now.right))) c.requires.below (omega (arith, c.min-most.ensures)) (omega arith) (count_in g.K.Keeper.told _ _ _ c.deref_mut.ensures.value c.requires.count) c.take_in-result.ensures.leads)
    c.halted-entry.ensures (adds_in c.halted-entry.result _ _ _ _ c.deref-3.ensures c.note.ensures.adds) in record {
      group = take c.min-most.result c.deref_mut.result.now.inbox.items;
      does = record {
        many = let shorter = length-take c.min-most.result c.deref_mut.result.now.inbox.items in omega (arith, shorter, c.min-most.ensures);
        does = job_serves g.K.Keeper.told g.K.Keeper.fuse g.K.Keeper.own g.K.Counted.faults g.K.Keeper.quiet g.K.Keeper.schedule (λ s. GroupEvents s (take c.min-most.result c.deref_mut.result.now.inbox.items)) Stays Stays Stays (λ s new stays. stays) (GroupWants (take c.min-most.result c.deref_mut.result.now.inbox.items)) _ c.args.limit c.args.processed c.deref_mut.result.now c.take_in-result.new.replica
            c.args.self.now.log.items c.args.self.now.log.items c.note.new.log.items c.halted-entry.result false c.take_in-result.result c.answered.result c.answered.ensures (tied_in g.K.Keeper.told g.K.Keeper.fuse g.K.Keeper.own g.K.Counted.faults g.K.Keeper.quiet g.K.Keeper.schedule _ _ _ _ c.deref_mut.ensures.value c.args.self.now.tied) refl tied
            (ap (λ r. r.stopped) c.deref_mut.ensures.value ∙ c.requires.runs) c.requires.below (count_in g.K.Keeper.told _ _ _ c.deref_mut.ensures.value c.requires.count) c.take_in-result.ensures.call c.take_in-result.ensures.keeps c.take_in-result.ensures.rest
            (group_wants (take c.min-most.result c.deref_mut.result.now.inbox.items) c.take_in-result.result _ _ _ c.take_in-result.ensures.counts c.take_in-result.ensures.wants) c.halted-entry.ensures (adds_in c.halted-entry.result _ _ _ _ c.deref-3.ensures c.note.ensures.adds);
      };
      takes = first_taken c.args.limit c.args.processed c.min-most.result c.take_in-result.result c.answered.result _ _ c.answered.ensures c.min-most.ensures c.requires.below (subst (λ r. length r.inbox.items ≤ 64) (c.deref-2.ensures ∙ sym c.deref_mut.ensures.value) c.inbox_len-few.ensures.few) c.take_in-result.ensures.items;
    })

pub returns-clause-log : goal.returns-clause-log
returns-clause-log g c = ok_unnoted c.take_in-result.result c.answered.result _ c.answered.ensures (λ none. ap (λ v. v.items) (c.note.ensures.none (c.halted-entry.ensures ∙ none)))

pub returns-clause-entries : goal.returns-clause-entries
returns-clause-entries g c =
    ok_both (λ grouped. grouped.processed ≤ 64) (λ grouped. vec_len c.note.new.log + grouped.processed ≤ vec_capacity c.note.new.log) (c.note.new.log ≡ c.args.self.now.log) c.answered.result
    (λ grouped few same. subst (λ v. vec_len v + grouped.processed ≤ vec_capacity v) (sym same) (omega (arith, few, c.requires.entries)))
    (ok_weaker _ (λ grouped. grouped.processed ≤ 64) c.answered.result (λ grouped counts. let few = counted_few _ c.min-most.result _ grouped counts in omega (arith, few, c.min-most.ensures)) (ok_answer _ c.take_in-result.result c.answered.result c.answered.ensures c.take_in-result.ensures.counts))
    (ok_unnoted c.take_in-result.result c.answered.result _ c.answered.ensures (λ none. c.note.ensures.none (c.halted-entry.ensures ∙ none)))

pub returns-clause-few : goal.returns-clause-few
returns-clause-few g c = ok_weaker _ (λ grouped. grouped.processed ≤ 64) c.answered.result (λ grouped counts. let few = counted_few _ c.min-most.result _ grouped counts in omega (arith, few, c.min-most.ensures)) (ok_answer _ c.take_in-result.result c.answered.result c.answered.ensures c.take_in-result.ensures.counts)

pub returns-clause-left : goal.returns-clause-left
returns-clause-left g c = group_left c.take_in-result.result c.answered.result c.min-most.result _ _ c.answered.ensures (omega (arith, c.min-most.ensures, c.requires.below)) (subst (λ r. length r.inbox.items ≤ 64) (c.deref-2.ensures ∙ sym c.deref_mut.ensures.value) c.inbox_len-few.ensures.few) c.take_in-result.ensures.items

pub returns-clause-error : goal.returns-clause-error
returns-clause-error g c = broken_answer c.take_in-result.result c.answered.result c.answered.ensures c.take_in-result.ensures.broken
