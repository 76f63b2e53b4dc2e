use Rattle.std.proofs.Common.{◌≡◌, take}
use Rattle.std.specs.Prelude.{fold}
use Rattle.mc_fetch.specs.Peers.{capped_with}
use Rattle.mc_fetch.proofs.peers.sum_faults.Given as goal

abbrev pub invariant-loop-view : goal.invariant-loop-view
invariant-loop-view g l = l.count ≡ fold (capped_with g.K.Desk.Counted.faults) 0 (take l.view-index l.views)
