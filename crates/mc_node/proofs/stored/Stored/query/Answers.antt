use Rattle.std.proofs.Common.{◌∙◌, ◌≡◌, ap, refl, true, List, None}
use Rattle.mc_core.specs.Calls.{Stays}
use Rattle.mc_core.specs.Reads.{OnlyReads, read_refusal}
use Rattle.mc_core.specs.Refusals.{Is}
use Rattle.mc_model.specs.Kept.{processed}
use Rattle.std.proofs.Common.{map}
use Rattle.mc_key.specs.Prefix.{is_under}
use Rattle.mc_model.specs.Answers as answers
use Rattle.mc_query.specs.Answers.{AreAnswers}
use Rattle.mc_query.specs.Places.{pair_of, start_of}
use Rattle.mc_query.specs.declared.pair.Pair.{Pair}
use Rattle.mc_node.specs.Moves.{NoMore, SeenOver}
use Rattle.mc_node.specs.Entries.{items_at}
use Rattle.mc_node.proofs.BoxFacts.{adds_in, count_in, kept_in, tied_in}
use Rattle.mc_node.proofs.PieceFacts.{right_on}
use Rattle.mc_node.proofs.CallFacts.{does_not_begin}
use Rattle.mc_core.specs.Exact.{DecidesAlone}
use Rattle.mc_node.proofs.ReplicaFacts.{adds_begins, read_ends, seen_err, seen_ok}
use Rattle.mc_node.proofs.stored.Stored.query.Goals as goal

pub returns-in-Err-clause-does : goal.returns-in-Err-clause-does
returns-in-Err-clause-does g c =
    does_not_begin None None (λ s. Is (read_refusal s)) (OnlyReads (SeenOver (λ kept pairs. map pair_of pairs ≡ answers.query (processed kept) (is_under c.args.prefix.now) c.args.skip c.args.count))) Stays (λ durable fuse. refl) (λ s. refl) NoMore (λ s. tt) None _ _ _ _ c.in-Err.error
    c.args.self.now.tied c.in-Err.ensures.refused (ap (items_at g.K.Keeper.told g.K.Keeper.fuse g.K.Keeper.own g.K.Counted.faults g.K.Keeper.quiet g.K.Keeper.schedule) c.in-Err.ensures.log)

pub invariant_of-self : goal.invariant_of-self
invariant_of-self g c = record {
  tied = (read_ends g.K.Keeper.told g.K.Keeper.fuse g.K.Keeper.own g.K.Counted.faults g.K.Keeper.quiet g.K.Keeper.schedule
      c.replicas_only_grow.ensures.goes c.replicas_only_grow.ensures.breaks c.kept_is_durable.ensures.back (λ s. Is (read_refusal s)) (λ kept pairs. map pair_of pairs ≡ answers.query (processed kept) (is_under c.args.prefix.now) c.args.skip c.args.count) _
      _ c.deref_mut.result.now c.query-result.new.self c.args.self.now.log.items c.begin.new.self.log.items c.note.new.log.items c.noted-entry.result c.query-result.result _ refl
      (tied_in g.K.Keeper.told g.K.Keeper.fuse g.K.Keeper.own g.K.Counted.faults g.K.Keeper.quiet g.K.Keeper.schedule _ _ _ _ c.deref_mut.ensures.value c.begin.new.self.tied) c.in-Ok.ensures.log (ap (λ r. r.stopped) c.deref_mut.ensures.value ∙ c.in-Ok.ensures.runs) (kept_in g.K.Keeper.told _ _ _ c.deref_mut.ensures.value c.deref.ensures c.is_sound.ensures.kept) (count_in g.K.Keeper.told _ _ _ c.deref_mut.ensures.value c.in-Ok.ensures.length) c.query-result.ensures.call
      c.query-result.ensures.keeps c.query-result.ensures.rest c.query-result.ensures.front c.noted-entry.ensures (adds_in c.noted-entry.result _ _ _ _ c.deref-2.ensures c.note.ensures.adds) c.query-result.ensures.same).0;
  right = right_on c.begin.new.self.taker g.J.Naming.found _ _ (c.query-result.ensures.rest.inbox_same ∙ ap (λ r. r.inbox) c.deref_mut.ensures.value) c.begin.new.self.right;
}

pub returns-clause-extends : goal.returns-clause-extends
returns-clause-extends g c = adds_begins c.noted-entry.result c.query-result.new.self _ _ _ c.in-Ok.ensures.log (adds_in c.noted-entry.result _ _ _ _ c.deref-2.ensures c.note.ensures.adds)

pub returns-clause-does : goal.returns-clause-does
returns-clause-does g c = (read_ends g.K.Keeper.told g.K.Keeper.fuse g.K.Keeper.own g.K.Counted.faults g.K.Keeper.quiet g.K.Keeper.schedule
    c.replicas_only_grow.ensures.goes c.replicas_only_grow.ensures.breaks c.kept_is_durable.ensures.back (λ s. Is (read_refusal s)) (λ kept pairs. map pair_of pairs ≡ answers.query (processed kept) (is_under c.args.prefix.now) c.args.skip c.args.count) _
    _ c.deref_mut.result.now c.query-result.new.self c.args.self.now.log.items c.begin.new.self.log.items c.note.new.log.items c.noted-entry.result c.query-result.result c.seen.result c.seen.ensures
    (tied_in g.K.Keeper.told g.K.Keeper.fuse g.K.Keeper.own g.K.Counted.faults g.K.Keeper.quiet g.K.Keeper.schedule _ _ _ _ c.deref_mut.ensures.value c.begin.new.self.tied) c.in-Ok.ensures.log (ap (λ r. r.stopped) c.deref_mut.ensures.value ∙ c.in-Ok.ensures.runs) (kept_in g.K.Keeper.told _ _ _ c.deref_mut.ensures.value c.deref.ensures c.is_sound.ensures.kept) (count_in g.K.Keeper.told _ _ _ c.deref_mut.ensures.value c.in-Ok.ensures.length) c.query-result.ensures.call
    c.query-result.ensures.keeps c.query-result.ensures.rest c.query-result.ensures.front c.noted-entry.ensures (adds_in c.noted-entry.result _ _ _ _ c.deref-2.ensures c.note.ensures.adds) c.query-result.ensures.same).1

pub returns-clause-seen : goal.returns-clause-seen
returns-clause-seen g c = rw c.seen.ensures (seen_err _ c.query-result.result DecidesAlone c.query-result.ensures.seen)

pub returns-clause-ascend : goal.returns-clause-ascend
returns-clause-ascend g c = rw c.seen.ensures (seen_ok _ c.query-result.result (λ (pairs : List Pair). AreAnswers (start_of c.args.prefix.now) true c.args.prefix.now c.args.count pairs) c.query-result.ensures.ascend)
