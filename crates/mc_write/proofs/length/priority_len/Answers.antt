use Rattle.std.proofs.Common.{sym}
use Rattle.mc_delta.proofs.LengthFacts.{priority_bytes_len}
use Rattle.mc_write.proofs.length.priority_len.Goals as goal

pub returns-else-priority-eq0-clause-len : goal.returns-else-priority-eq0-clause-len
returns-else-priority-eq0-clause-len c = rw c.varint_len.ensures.len (sym (priority_bytes_len c.args.priority c.if-priority-eq0.false))
