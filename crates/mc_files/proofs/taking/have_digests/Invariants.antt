use Rattle.std.proofs.Common.{◌≡◌, take, true}
use Rattle.std.specs.List.{list_all}
use Rattle.mc_car.specs.Car.{has_digest}
use Rattle.mc_files.proofs.taking.have_digests.Given as goal

abbrev pub invariant-loop-cid : goal.invariant-loop-cid
invariant-loop-cid l = list_all has_digest (take l.cid-index l.cids) ≡ true
