use Rattle.mc_turn.specs.Seats.{IsSeatOf}
use Rattle.mc_node.specs.Entries.{items_at, is_open}
use Rattle.mc_node.specs.Seats.{knows}
use Rattle.mc_writers.proofs.StormWrites.{IsStorming}
use Rattle.std.proofs.Common.{◌≡◌, true}
use Rattle.mc_writers.proofs.writing.write_each.Given as goal

abbrev pub invariant-loop-number : goal.invariant-loop-number
invariant-loop-number g l = IsStorming (IsSeatOf l.node.turn l.seat.seat) (is_open (knows l.seat).seen ≡ true) l.writer l.number l.stormed
    (items_at g.K.Keeper.told g.K.Keeper.fuse g.K.Keeper.own g.K.Counted.faults g.K.Keeper.quiet g.K.Keeper.schedule (knows l.seat).seen) (knows l.fn.seat) (knows l.seat)
