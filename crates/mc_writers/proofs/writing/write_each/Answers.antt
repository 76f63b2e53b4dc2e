use Rattle.std.proofs.Common.{◌+◌, arith}
use Rattle.mc_node.specs.Seats.{knows}
use Rattle.mc_writers.proofs.StormCrews.{item_at, open_one}
use Rattle.mc_writers.proofs.StormWrites.{storming_ends, storming_on, storming_start, storming_stops}
use Rattle.mc_writers.proofs.writing.write_each.Goals as goal

pub loop-number-init : goal.loop-number-init
loop-number-init g c = storming_start (item_at g.K.Keeper.told g.K.Keeper.fuse g.K.Keeper.own g.K.Counted.faults g.K.Keeper.quiet g.K.Keeper.schedule) _ _ c.args.writer (knows c.args.seat.now) c.requires.own c.requires.unsealed

pub returns-in-None-clause-written : goal.returns-in-None-clause-written
returns-in-None-clause-written g c =
    storming_stops (item_at g.K.Keeper.told g.K.Keeper.fuse g.K.Keeper.own g.K.Counted.faults g.K.Keeper.quiet g.K.Keeper.schedule) _ _ c.args.writer c.loop-number.number c.args.writes (c.loop-number.number + 1) c.loop-number.stormed (knows c.args.seat.now) (knows c.loop-number.seat) (knows c.write_once.new.seat)
    (open_one _ c.requires.unsealed) c.requires.unused (omega arith) c.loop-number-test.true c.loop-number.invariant c.in-None.ensures.writes

pub loop-number-preserved : goal.loop-number-preserved
loop-number-preserved g c =
    storming_on (item_at g.K.Keeper.told g.K.Keeper.fuse g.K.Keeper.own g.K.Counted.faults g.K.Keeper.quiet g.K.Keeper.schedule) _ _ _ _ c.args.writer c.loop-number.number (c.loop-number.number + 1) c.loop-number.stormed _ c.in-Some.wrote (knows c.args.seat.now) (knows c.loop-number.seat) (knows c.write_once.new.seat)
    (omega arith) c.loop-number.invariant c.in-Some.ensures.writes c.counted-stormed.ensures c.in-Some.ensures.own c.in-Some.ensures.unsealed

pub returns-clause-written : goal.returns-clause-written
returns-clause-written g c =
    let f = c.loop-number-test.false in let t = c.loop-number.auto.number-end in
    storming_ends (item_at g.K.Keeper.told g.K.Keeper.fuse g.K.Keeper.own g.K.Counted.faults g.K.Keeper.quiet g.K.Keeper.schedule) _ _ c.args.writer c.loop-number.number c.args.writes c.loop-number.stormed (knows c.args.seat.now) (knows c.loop-number.seat) (open_one _ c.requires.unsealed) c.requires.unused (omega (arith, f, t)) c.loop-number.invariant
