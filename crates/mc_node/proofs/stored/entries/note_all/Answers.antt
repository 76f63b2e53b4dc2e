use Rattle.std.proofs.Common.{arith}
use Rattle.mc_node.proofs.PieceFacts.{adds_none, adds_one}
use Rattle.mc_node.proofs.stored.entries.note_all.Goals as goal

pub loop-init : goal.loop-init
loop-init g c = record { adds = adds_none _ _; room = omega (arith, c.requires.room); few = omega arith }

pub loop-preserved : goal.loop-preserved
loop-preserved g c =
    let inv = c.loop.invariant in
    let test = c.loop-test.true in
    record {
      adds = adds_one _ _ _ _ _ c.about.result inv.adds c.push_reserved.ensures.items c.about.ensures.note c.about.ensures.replica;
      room = omega (arith, inv.room, c.push_reserved.ensures.len, c.push_reserved.ensures.capacity);
      few = omega (arith, test);
    }
