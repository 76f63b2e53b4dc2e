use Rattle.std.proofs.Common.{ap, Ok}
use Rattle.mc_delta.proofs.EntryFacts.{entry_done}
use Rattle.mc_delta.proofs.entry.read_entry.Goals as goal

pub returns-clause-entry : goal.returns-clause-entry
returns-clause-entry c =
    let l = c.loop-field in
    let read = c.in_ok-field.ensures in
    entry_done c.args.bytes.now c.args.from l.at l.entry l.invariant (read.rest (read.end.0 (ap (λ found. Ok found) c.in_default.is)))
