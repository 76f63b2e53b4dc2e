use Rattle.mc_delta.proofs.LengthFacts.{tomb_more}
use Rattle.mc_delta.proofs.length.tombs_len.Goals as goal

pub loop-tomb-preserved : goal.loop-tomb-preserved
loop-tomb-preserved c =
    let l = c.loop-tomb in
    tomb_more c.args.tombstones.now l.tomb-index c.tomb-item.result l.len c.entry_len-entry.result c.field_len.result c.saturating_add-len.result c.loop-tomb-test.true c.tomb-item.is l.invariant
    (rw (c.len.ensures, c.len-in-loop-tomb.ensures) at c.entry_len-entry.ensures) c.field_len.ensures c.saturating_add-len.ensures
