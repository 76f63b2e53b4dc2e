use Rattle.std.proofs.Common.{◌≡◌, take}
use Rattle.mc_acts.specs.Counting.{firsts, keeper_counts, seconds}
use Rattle.mc_acts.proofs.record.count_keepers.Given as goal

abbrev pub invariant-loop-seat : goal.invariant-loop-seat
invariant-loop-seat g l = (firsts l.counts.items ≡ keeper_counts g.K.Counted.faults (take l.seat-index l.seats))
    × (seconds l.counts.items ≡ keeper_counts g.K.Keeper.own (take l.seat-index l.seats))
