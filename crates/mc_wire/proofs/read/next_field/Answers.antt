use Rattle.mc_wire.proofs.Keys.{no_field}
use Rattle.mc_wire.proofs.read.next_field.Goals as goal

pub returns-in-Err-clause-fault : goal.returns-in-Err-clause-fault
returns-in-Err-clause-fault c = no_field c.args.bytes.now c.args.at c.in-Some.key c.in-Err.kind (rw c.in-Some.is at c.in_ok-key.ensures.key) c.in-Err.ensures.fault
