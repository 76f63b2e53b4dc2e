use Rattle.std.proofs.Common.{◌≡◌, take}
use Rattle.mc_cast.specs.Cast.{cast_bytes}
use Rattle.mc_cast.specs.Steps.{digests_of}
use Rattle.mc_cast.proofs.message.write_cast.Given as goal

abbrev pub invariant-loop-head : goal.invariant-loop-head
invariant-loop-head l = l.bytes ≡ cast_bytes (digests_of (take l.head-index l.heads))
