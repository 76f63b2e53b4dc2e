use Rattle.std.proofs.Common.{ap, Ok, rules}
use Rattle.mc_delta.proofs.DeltaFacts.{wire_bad, field_bad, delta_done, delta_found}
use Rattle.mc_delta.proofs.read.read_delta.Goals as goal

pub returns-in_err-field-clause-fault : goal.returns-in_err-field-clause-fault
returns-in_err-field-clause-fault c =
    let l = c.loop-delta in
    let bad = wire_bad c.args.bytes.now l.at l.delta _ l.invariant c.in_err-field.ensures.fault in
    search (rules, bad)

pub returns-in_err-take_field-clause-fault : goal.returns-in_err-take_field-clause-fault
returns-in_err-take_field-clause-fault c =
    let l = c.loop-delta in
    let placed = rw c.in-Some.is at c.in_ok-field.ensures.field in
    let bad = field_bad c.args.bytes.now l.at l.delta c.in-Some.field _ l.invariant placed c.in_err-take_field.ensures.fault in
    search (rules, bad)

pub returns-clause-delta : goal.returns-clause-delta
returns-clause-delta c =
    let l = c.loop-delta in
    let read = c.in_ok-field.ensures in
    delta_found c.args.bytes.now l.at l.delta l.invariant (read.rest (read.end.0 (ap (λ found. Ok found) c.in_default.is)))

pub returns-clause-read : goal.returns-clause-read
returns-clause-read c =
    let l = c.loop-delta in
    let read = c.in_ok-field.ensures in
    delta_done c.args.bytes.now l.at l.delta l.invariant (read.rest (read.end.0 (ap (λ found. Ok found) c.in_default.is)))
