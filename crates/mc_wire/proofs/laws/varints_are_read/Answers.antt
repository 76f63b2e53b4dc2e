use Rattle.mc_wire.proofs.VarintFacts.{varint_is_read, varint_read}
use Rattle.mc_wire.proofs.laws.varints_are_read.Goals as goal

pub returns-clause-read : goal.returns-clause-read
returns-clause-read c = varint_is_read

pub returns-clause-found : goal.returns-clause-found
returns-clause-found c = λ text value len found. let read = varint_read text value len found in (read.varint, read.within)
