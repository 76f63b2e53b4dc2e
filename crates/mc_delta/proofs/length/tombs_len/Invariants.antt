use Rattle.std.proofs.Common.{◌≡◌, length, take}
use Rattle.std.specs.List.{flat_map}
use Rattle.mc_model.specs.DeltaText.{tomb_bytes}
use Rattle.mc_delta.specs.Lengths.{capped}
use Rattle.mc_delta.proofs.length.tombs_len.Given as goal

abbrev pub invariant-loop-tomb : goal.invariant-loop-tomb
invariant-loop-tomb l = l.len ≡ capped (length (flat_map tomb_bytes (take l.tomb-index l.tombstones)))
