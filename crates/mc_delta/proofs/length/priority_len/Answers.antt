use Rattle.std.proofs.Common.{sym}
use Rattle.mc_delta.proofs.LengthFacts.{priority_bytes_len}
use Rattle.mc_delta.proofs.length.priority_len.Goals as goal

pub returns-else-priority-eq0 : goal.returns-else-priority-eq0
returns-else-priority-eq0 c = rw c.varint_len.ensures.len (sym (priority_bytes_len c.args.priority c.if-priority-eq0.false))
