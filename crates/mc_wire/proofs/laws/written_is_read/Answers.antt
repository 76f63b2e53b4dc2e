use Rattle.mc_wire.proofs.WrittenFacts.{varint_is_written, varint_field_is_written, part_field_is_written}
use Rattle.mc_wire.proofs.laws.written_is_read.Goals as goal

pub returns-clause-varint : goal.returns-clause-varint
returns-clause-varint c = varint_is_written

pub returns-clause-varint_field : goal.returns-clause-varint_field
returns-clause-varint_field c = varint_field_is_written

pub returns-clause-part_field : goal.returns-clause-part_field
returns-clause-part_field c = part_field_is_written
