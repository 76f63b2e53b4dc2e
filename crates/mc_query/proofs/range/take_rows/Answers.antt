use Rattle.std.proofs.Common.{arith, ◌+◌, false}
use Rattle.mc_model.specs.Kept.{Kept, processed}
use Rattle.mc_keep.proofs.Frames.{read_itself, read_more}
use Rattle.mc_query.specs.Places.{start_of}
use Rattle.mc_query.proofs.AheadFacts.{none_ahead}
use Rattle.mc_query.proofs.AnswerFacts.{answers_none, answers_within, answers_more}
use Rattle.mc_query.proofs.Leaving.{told_all, told_both}
use Rattle.mc_query.proofs.PairFacts.{taken_start, taken_more, taken_ended, past_after, ahead_after}
use Rattle.mc_query.proofs.ReadFacts.{reads_none, reads_both}
use Rattle.mc_query.proofs.range.take_rows.Goals as goal

pub loop-init : goal.loop-init
loop-init g c = record {
  reads = read_itself _;
  planned = reads_none 0 (g.K.Keeper.schedule c.args.keeper.now);
  past = rw c.new-pairs.ensures c.requires.past;
  ahead = rw c.new-pairs.ensures (told_all (g.K.Keeper.told c.args.keeper.now) (λ (kept : Kept). none_ahead (processed kept) c.args.place.now.bound c.args.place.now.inclusive c.new-ahead.result.rows.items c.new-ahead.ensures));
  answers = answers_none c.args.place.now.bound c.args.place.now.inclusive c.args.prefix.now 0 c.new-pairs.result c.new-pairs.ensures;
  done = told_all (g.K.Keeper.told c.args.keeper.now) (λ (kept : Kept). taken_start (processed kept) c.args.prefix.now c.args.place.now c.new-pairs.result c.new-pairs.ensures);
}

pub returns-in-None-clause-rows : goal.returns-in-None-clause-rows
returns-in-None-clause-rows g c = told_both (g.K.Keeper.told c.args.keeper.now) (g.K.Keeper.told c.loop.keeper) c.loop.invariant.reads.told_same c.loop.invariant.done c.in_ok-row.ensures.row
    (λ (kept : Kept). λ taken next. taken_ended (processed kept) c.args.prefix.now c.args.place.now c.loop.pairs c.loop.counter c.args.count c.place_after-inclusive.result.0.now c.place_after-inclusive.result.1 c.in_ok-row.field-0
    (rw c.as_slice.ensures at c.place_after-inclusive.ensures.bound) (rw c.as_slice.ensures at c.place_after-inclusive.ensures.inclusive) c.in-None.is (omega (arith, c.loop-test.true)) taken next)

pub returns-in-None-clause-ascend : goal.returns-in-None-clause-ascend
returns-in-None-clause-ascend g c = answers_within c.loop.counter c.args.count (omega (arith, c.loop-test.true)) c.loop.invariant.answers

pub loop-preserved : goal.loop-preserved
loop-preserved g c =
    let told = c.in_ok-row.ensures in
    record {
      reads = read_more c.loop.invariant.reads told.reads;
      planned = reads_both c.loop.counter 1 (c.loop.counter + 1) (g.K.Keeper.schedule c.args.keeper.now) (g.K.Keeper.schedule c.loop.keeper) (g.K.Keeper.schedule c.next_under.new.keeper) false (omega arith) c.loop.invariant.planned told.planned;
      past = past_after c.args.place.now c.loop.pairs c.push_row.new.pairs c.in-Some.row (start_of c.args.prefix.now) c.in_ok-push_row-in-Some.ensures (rw c.in-Some.is at told.past);
      answers = answers_more c.args.prefix.now c.args.place.now c.loop.pairs c.push_row.new.pairs c.loop.counter c.place_after-inclusive.result.0.now c.place_after-inclusive.result.1 c.in-Some.row
          (rw c.as_slice.ensures at c.place_after-inclusive.ensures.bound) (rw c.as_slice.ensures at c.place_after-inclusive.ensures.inclusive) c.in_ok-push_row-in-Some.ensures
          (rw c.in-Some.is at told.next) (rw c.in-Some.is at told.under) c.loop.invariant.answers;
      ahead = told_both (g.K.Keeper.told c.args.keeper.now) (g.K.Keeper.told c.loop.keeper) c.loop.invariant.reads.told_same c.loop.invariant.done (rw c.in-Some.is at told.ahead)
          (λ (kept : Kept). λ taken ahead. ahead_after (processed kept) c.args.place.now c.loop.pairs c.push_row.new.pairs c.in-Some.row c.next_under.new.ahead.rows.items c.in_ok-push_row-in-Some.ensures ahead);
      done = told_both (g.K.Keeper.told c.args.keeper.now) (g.K.Keeper.told c.loop.keeper) c.loop.invariant.reads.told_same c.loop.invariant.done told.row
          (λ (kept : Kept). λ taken next. taken_more (processed kept) c.args.prefix.now c.args.place.now c.loop.pairs c.push_row.new.pairs c.loop.counter c.place_after-inclusive.result.0.now c.place_after-inclusive.result.1 c.in_ok-row.field-0 c.in-Some.row
          (rw c.as_slice.ensures at c.place_after-inclusive.ensures.bound) (rw c.as_slice.ensures at c.place_after-inclusive.ensures.inclusive) c.in-Some.is c.in_ok-push_row-in-Some.ensures taken next);
    }
