use Rattle.std.proofs.Common.{arith, ◌-◌, ◌<◌, ◌≤◌, false}
use Rattle.mc_model.specs.Kept.{Kept, processed}
use Rattle.mc_keep.proofs.Frames.{read_itself, read_more}
use Rattle.mc_query.specs.Places.{start_of}
use Rattle.mc_query.proofs.KeyOrder.{is_past_at}
use Rattle.mc_query.proofs.Leaving.{told_all, told_both}
use Rattle.mc_query.proofs.PairFacts.{passing_start, passing_more, passing_ended}
use Rattle.mc_query.proofs.ReadFacts.{reads_none, reads_more}
use Rattle.mc_query.proofs.range.pass_over.Goals as goal

pub loop-left-init : goal.loop-left-init
loop-left-init g c = record {
  within = omega arith;
  reads = read_itself _;
  planned = reads_none (c.args.skip - c.args.skip) (g.K.Keeper.schedule c.args.keeper.now);
  past = rw c.requires.start (is_past_at (start_of c.args.prefix.now));
  done = told_all (g.K.Keeper.told c.args.keeper.now) (λ (kept : Kept). passing_start (processed kept) c.args.prefix.now c.args.start c.args.skip c.requires.start);
}

pub returns-in_default-clause-place : goal.returns-in_default-clause-place
returns-in_default-clause-place g c =
    let within : c.min-stride.result ≤ c.loop-left.left = omega (arith, c.min-stride.ensures) in
    told_both (g.K.Keeper.told c.args.keeper.now) (g.K.Keeper.told c.loop-left.keeper) c.loop-left.invariant.reads.told_same c.loop-left.invariant.done c.in_ok-key.ensures.key
    (λ (kept : Kept). λ passing at. passing_ended (processed kept) c.args.prefix.now c.loop-left.place c.loop-left.left c.min-stride.result c.args.skip c.as_str.result.now c.in_ok-key.field-0 c.as_str.ensures c.in_default.is within passing at)

pub loop-left-preserved : goal.loop-left-preserved
loop-left-preserved g c =
    let told = c.in_ok-key.ensures in
    let now = c.loop-left.invariant in
    let some : 0 < c.min-stride.result = omega (arith, c.min-stride.ensures, c.loop-left-test.true) in
    let within : c.min-stride.result ≤ c.loop-left.left = omega (arith, c.min-stride.ensures) in
    record {
      within = omega (arith, now.within);
      reads = read_more now.reads told.reads;
      planned = reads_more (c.args.skip - c.loop-left.left) (c.args.skip - (c.loop-left.left - c.min-stride.result)) (g.K.Keeper.schedule c.args.keeper.now) (g.K.Keeper.schedule c.loop-left.keeper) (g.K.Keeper.schedule c.key_under.new.keeper) false
          (omega (arith, now.within, some, within)) now.planned told.planned;
      past = rw c.in-Some.is at told.past;
      done = told_both (g.K.Keeper.told c.args.keeper.now) (g.K.Keeper.told c.loop-left.keeper) now.reads.told_same now.done told.key
          (λ (kept : Kept). λ passing at. passing_more (processed kept) c.args.prefix.now c.loop-left.place c.loop-left.left c.min-stride.result c.args.skip c.as_str.result.now c.in_ok-key.field-0 c.in-Some.key c.as_str.ensures c.in-Some.is some within passing at);
    }
