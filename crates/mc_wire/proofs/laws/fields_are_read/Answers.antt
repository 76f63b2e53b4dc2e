use Rattle.std.proofs.Common.{length, arith}
use Rattle.mc_wire.proofs.FieldFacts.{fields_are_read, fields_found}
use Rattle.mc_wire.proofs.laws.fields_are_read.Goals as goal

pub returns-clause-read : goal.returns-clause-read
returns-clause-read c = fields_are_read 0

pub returns-clause-found : goal.returns-clause-found
returns-clause-found c = λ text fields found. fields_found (length text) 0 text fields (omega arith) found
