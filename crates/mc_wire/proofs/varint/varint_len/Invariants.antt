use Rattle.std.proofs.Common.{◌≡◌, ◌+◌, ◌≤◌, length}
use Rattle.mc_base.specs.Wire.{varint_bytes}
use Rattle.mc_wire.proofs.varint.varint_len.Given as goal

abbrev pub invariant-loop-rest : goal.invariant-loop-rest
invariant-loop-rest l = record { so_far : l.len + length (varint_bytes l.rest) ≡ length (varint_bytes l.value) + 1; bounded : l.len + l.rest ≤ l.value + 1 }

abbrev pub decreases-loop-rest : goal.decreases-loop-rest
decreases-loop-rest l = l.rest
