use Rattle.std.proofs.Common.{refl, rules}
use Rattle.mc_wire.proofs.Keys.{number_zero, faulty_content, field_of}
use Rattle.mc_wire.proofs.read.read_field.Goals as goal

pub returns-then-key-eq0-clause-fault : goal.returns-then-key-eq0-clause-fault
returns-then-key-eq0-clause-fault c = number_zero c.args.bytes.now c.args.key c.if-key-eq0.true

pub returns-in_err-content-clause-fault : goal.returns-in_err-content-clause-fault
returns-in_err-content-clause-fault c = let bad = faulty_content c.args.bytes.now c.args.key _ c.if-key-eq0.false c.in_err-content.ensures.fault in search (rules, bad)

pub returns-clause-field : goal.returns-clause-field
returns-clause-field c = field_of c.args.bytes.now c.args.key _ refl c.if-key-eq0.false c.in_ok-content.ensures.content
