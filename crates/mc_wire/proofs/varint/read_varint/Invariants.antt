use Rattle.mc_wire.proofs.Reading.{IsReading}
use Rattle.mc_wire.proofs.varint.read_varint.Given as goal

abbrev pub invariant-loop-place : goal.invariant-loop-place
invariant-loop-place l = IsReading l.bytes l.place l.value l.scale
