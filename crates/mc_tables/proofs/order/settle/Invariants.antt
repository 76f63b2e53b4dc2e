use Rattle.std.proofs.Common.{◌≤◌}
use Rattle.std.specs.Prelude.{vec_len, vec_capacity}
use Rattle.mc_tables.specs.Places.{texts_in, value_in}
use Rattle.mc_tables.specs.Values.{IsCovered}
use Rattle.mc_tables.proofs.order.settle.Given as goal

abbrev pub invariant-loop-number : goal.invariant-loop-number
invariant-loop-number g l = record {
  covered : IsCovered (texts_in l.elements.keys) (value_in l.elements.keys) l.fn.values.ordered l.fn.values.pending.items
      → IsCovered (texts_in l.elements.keys) (value_in l.elements.keys) l.values.ordered l.values.pending.items;
  len : vec_len l.values.pending ≤ vec_len l.fn.values.pending;
  capacity : vec_capacity l.fn.values.pending ≤ vec_capacity l.values.pending;
}

abbrev pub decreases-loop-number : goal.decreases-loop-number
decreases-loop-number g l = vec_len l.values.pending
