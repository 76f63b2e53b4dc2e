use Rattle.std.proofs.Common.{◌≡◌, take}
use Rattle.mc_seats.specs.Keepers.{desk_count}
use Rattle.mc_seats.proofs.sums.count_desks.Given as goal

abbrev pub invariant-loop-desk : goal.invariant-loop-desk
invariant-loop-desk g l = l.count ≡ desk_count g.K.Desk.Counted.faults (take l.desk-index l.desks)
