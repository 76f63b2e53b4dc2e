use Rattle.std.proofs.Common.{◌≡◌, ◌+◌, ◌*◌, ◌<◌, ◌≤◌, ◌-◌}
use Rattle.mc_model.specs.Offer.{block_max}
use Rattle.mc_write.specs.Lengths.{block_length}
use Rattle.mc_write.proofs.length.room_for.Given as goal

abbrev pub invariant-loop-taken : goal.invariant-loop-taken
invariant-loop-taken l = record {
  within : l.taken ≤ l.most;
  sum : l.delta ≡ l.base + l.taken * l.tomb;
  small : l.delta ≤ 1048576;
  fits : 0 < l.taken → block_length l.links l.delta ≤ block_max;
}

abbrev pub decreases-loop-taken : goal.decreases-loop-taken
decreases-loop-taken l = l.most - l.taken
