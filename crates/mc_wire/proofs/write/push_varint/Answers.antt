use Rattle.mc_wire.proofs.Writing.{pushed_more, keeps_more}
use Rattle.mc_wire.proofs.write.push_varint.Goals as goal

pub loop-rest-preserved : goal.loop-rest-preserved
loop-rest-preserved c =
    let pushed = c.in_ok-push.ensures.ok in
    let before = c.loop-rest.invariant in
    record {
      so_far = pushed_more c.loop-rest.out c.push.new.self _ c.loop-rest.rest c.loop-rest-test.true before.so_far pushed;
      kept = rw pushed (keeps_more c.args.out.now c.loop-rest.out _ before.kept);
    }
