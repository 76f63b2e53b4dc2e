use Rattle.std.proofs.Common.{◌≡◌, ◌++◌}
use Rattle.mc_base.specs.Wire.{varint_bytes}
use Rattle.mc_wire.specs.Kept.{Keeps}
use Rattle.mc_wire.proofs.write.push_varint.Given as goal

abbrev pub invariant-loop-rest : goal.invariant-loop-rest
invariant-loop-rest l = record { so_far : l.out ++ varint_bytes l.rest ≡ l.initial.out ++ varint_bytes l.value; kept : Keeps l.initial.out l.out }

abbrev pub decreases-loop-rest : goal.decreases-loop-rest
decreases-loop-rest l = l.rest
