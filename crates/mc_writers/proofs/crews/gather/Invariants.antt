use Rattle.std.proofs.Common.{length}
use Rattle.mc_turn.specs.Lists.{total}
use Rattle.mc_turn.specs.Seats.{IsSeatOf}
use Rattle.mc_node.specs.Entries.{items_at}
use Rattle.mc_node.specs.Seats.{knows}
use Rattle.mc_writers.specs.Writers.{HasWritten}
use Rattle.mc_writers.proofs.Gathering.{IsGathering}
use Rattle.mc_writers.proofs.crews.gather.Given as goal

abbrev pub invariant-loop-writer : goal.invariant-loop-writer
invariant-loop-writer g l = IsGathering (length l.fn.crew.items) l.writes (IsSeatOf l.node.turn l.seat.seat) l.rest.rest.items l.wrote
    (items_at g.K.Keeper.told g.K.Keeper.fuse g.K.Keeper.own g.K.Counted.faults g.K.Keeper.quiet g.K.Keeper.schedule (knows l.seat).seen) (total (λ writer. (knows writer.seat).parts) l.fn.crew.items) (knows l.fn.seat) (knows l.seat)
    (λ writer. IsSeatOf l.node.turn writer.seat.seat)
    (λ writer. HasWritten writer.number l.writes writer.wrote (items_at g.K.Keeper.told g.K.Keeper.fuse g.K.Keeper.own g.K.Counted.faults g.K.Keeper.quiet g.K.Keeper.schedule (knows writer.seat).seen) (knows writer.seat))
    (λ writer. writer.number) (λ writer. (knows writer.seat).parts)

abbrev pub decreases-loop-writer : goal.decreases-loop-writer
decreases-loop-writer g l = length l.rest.rest.items
