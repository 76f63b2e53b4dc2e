use Rattle.std.proofs.Common.{◌≡◌, ◌++◌, take}
use Rattle.std.specs.List.{flat_map}
use Rattle.mc_model.specs.DeltaText.{tomb_bytes}
use Rattle.mc_delta.proofs.write.push_tombs.Given as goal

abbrev pub invariant-loop-tomb : goal.invariant-loop-tomb
invariant-loop-tomb l = l.out ≡ l.initial.out ++ flat_map tomb_bytes (take l.tomb-index l.tombstones)
