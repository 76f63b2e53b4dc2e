use Rattle.std.proofs.Common.{◌≡◌, true, vec_capacity}
use Rattle.mc_turn.specs.Seats.{IsSeatOf}
use Rattle.mc_writers.specs.Crews.{IsReady}
use Rattle.mc_node.specs.Entries.{is_open}
use Rattle.mc_node.specs.Seats.{knows}
use Rattle.mc_writers.proofs.Gathering.{IsHiring}
use Rattle.mc_writers.proofs.crews.hire.Given as goal

abbrev pub invariant-loop-index : goal.invariant-loop-index
invariant-loop-index g l = IsHiring l.count l.index (vec_capacity l.crew) (IsSeatOf l.node.turn l.seat.seat) l.crew.items (knows l.fn.seat) (knows l.seat)
    (λ writer. IsReady (IsSeatOf l.node.turn writer.seat.seat) (is_open (knows writer.seat).seen ≡ true) (knows writer.seat)) (λ writer. writer.number) (λ writer. (knows writer.seat).parts)
