use Rattle.std.proofs.Common.{rules}
use Rattle.mc_keep.proofs.Frames.{read_itself, read_more}
use Rattle.mc_plan.proofs.HearFacts.{new_more, some_more}
use Rattle.mc_plan.proofs.RefusalFacts.{told_always}
use Rattle.mc_plan.proofs.wanting.unprocessed.Goals as goal

pub loop-cid-init : goal.loop-cid-init
loop-cid-init g c = record { left = told_always _ _ (λ kept. c.new-left.ensures); some = c.new-left.ensures; reads = read_itself c.args.keeper.now }

pub loop-cid-preserved : goal.loop-cid-preserved
loop-cid-preserved g c = record {
  left = new_more c.args.cids.now _ _ c.loop-cid.cid-index _ (search (rules, c.loop-cid-test.true)) _ _ c.loop-cid.invariant.reads.told_same c.loop-cid.invariant.left c.in_ok-add_unprocessed.ensures.left;
  some = some_more c.args.cids.now _ _ c.loop-cid.cid-index _ (search (rules, c.loop-cid-test.true)) c.loop-cid.invariant.some c.in_ok-add_unprocessed.ensures.some;
  reads = read_more c.loop-cid.invariant.reads c.in_ok-add_unprocessed.ensures.reads;
}
