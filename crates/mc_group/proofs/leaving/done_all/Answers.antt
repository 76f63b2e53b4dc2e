use Rattle.std.proofs.Common.{◌∙◌, ap, refl, arith, [], ◌∷◌, take}
use Rattle.mc_model.specs.Wanted.{Queue, without}
use Rattle.mc_queue.specs.Views.{shown}
use Rattle.mc_group.proofs.WithoutFacts.{leave_one, without_none}
use Rattle.mc_group.proofs.leaving.done_all.Goals as goal

pub loop-cid-init : goal.loop-cid-init
loop-cid-init c = record { queue = without_none (shown c.args.queue.now); spare = omega arith }

pub loop-cid-preserved : goal.loop-cid-preserved
loop-cid-preserved c =
    let before = c.loop-cid.invariant.spare in
    let after = c.done.ensures.spare in
    record {
      queue = leave_one (shown c.args.queue.now) _ _ c.args.cids.now c.loop-cid.cid-index _ c.loop-cid-test.true c.loop-cid.invariant.queue c.done.ensures.queue;
      spare = omega (arith, before, after);
    }
