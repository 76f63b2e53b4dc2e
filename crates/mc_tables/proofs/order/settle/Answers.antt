use Rattle.std.proofs.Common.{rules}
use Rattle.mc_tables.specs.Places.{texts_in, value_in}
use Rattle.mc_tables.proofs.ValueFacts.{covered_moved, covered_sorted}
use Rattle.mc_tables.proofs.order.settle.Goals as goal

pub loop-number-preserved : goal.loop-number-preserved
loop-number-preserved g c = record {
  covered = λ first.
      covered_moved c.args.elements.now.keys c.loop-number.values.ordered c.put_in_order.new.ordered c.pop.new.self.items c.loop-number.values.pending.items c.in-Some.number c.in-Some.ensures.items
      c.in_default-put_in_order.ensures.ok (c.loop-number.invariant.covered first);
  len = search rules;
  capacity = search rules;
}

pub loop-number-init : goal.loop-number-init
loop-number-init g c = record {
  covered = λ first.
      covered_sorted (texts_in c.args.elements.now.keys) (value_in c.args.elements.now.keys) c.args.values.now.ordered c.args.values.now.pending.items c.sort_waiting.new.pending.items c.sort_waiting.ensures.waits first;
  len = search rules;
  capacity = search rules;
}
