use Rattle.std.proofs.Common.{◌≡◌, [], true}
use Rattle.mc_turn.specs.Seats.{IsSeatOf}
use Rattle.mc_node.specs.Ahead.{Looks}
use Rattle.mc_node.specs.Entries.{is_sealed_log, items_at}
use Rattle.mc_node.specs.Seats.{knows}
use Rattle.mc_node.proofs.node.ahead.Node+Stored+K+J.ask_jobs.Given as goal

abbrev pub invariant-loop-look : goal.invariant-loop-look
invariant-loop-look g l = record {
  looks : Looks (items_at g.K.Keeper.told g.K.Keeper.fuse g.K.Keeper.own g.K.Counted.faults g.K.Keeper.quiet g.K.Keeper.schedule) l.limit l.look (knows l.fn.seat) (knows l.seat);
  own : IsSeatOf l.self.turn l.seat.seat;
  sealed : is_sealed_log (knows l.seat).seen ≡ true;
  none : l.ahead.items ≡ [];
}
