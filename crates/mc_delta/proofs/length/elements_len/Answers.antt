use Rattle.mc_delta.proofs.LengthFacts.{element_more}
use Rattle.mc_delta.proofs.length.elements_len.Goals as goal

pub loop-element-preserved : goal.loop-element-preserved
loop-element-preserved c =
    let l = c.loop-element in
    element_more c.args.elements.now l.element-index c.element-item.result l.len c.entry_len-entry.result c.field_len.result c.saturating_add-len.result c.loop-element-test.true c.element-item.is l.invariant
    (rw (c.len.ensures, c.len-in-loop-element.ensures) at c.entry_len-entry.ensures) c.field_len.ensures c.saturating_add-len.ensures
