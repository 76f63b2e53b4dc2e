use Rattle.std.proofs.Common.{◌≡◌, ◌≤◌, ◌+◌, ℕ, false, List, length}
use Rattle.std.specs.Prelude.{vec_len, vec_capacity}
use Rattle.std.specs.HashMap.{spare}
use Rattle.mc_keep.specs.Changes.{values_after}
use Rattle.mc_tables.specs.Places.{last_in, value_in, texts_in}
use Rattle.mc_tables.specs.Values.{row_in, AreThere, IsCovered}
use Rattle.mc_tables.specs.Winners.{has_value_of}
use Rattle.mc_tables.proofs.values.put_values.Given as goal

abbrev pub invariant-loop-change : goal.invariant-loop-change
invariant-loop-change g l = record {
  rows : (key : List ℕ) → row_in l.elements.nodes.items (value_in l.elements.keys) key ≡ values_after key (row_in l.initial.elements.nodes.items (value_in l.initial.elements.keys) key) l.yielded;
  others : (key : List ℕ) → has_value_of l.yielded key ≡ false → value_in l.elements.keys key ≡ value_in l.initial.elements.keys key;
  nodes : l.elements.nodes ≡ l.initial.elements.nodes;
  lasts : (key : List ℕ) → last_in l.elements.keys key ≡ last_in l.initial.elements.keys key;
  covered : IsCovered (texts_in l.elements.keys) (value_in l.elements.keys) l.values.ordered l.values.pending.items;
  there : AreThere l.initial.elements.nodes.items (value_in l.initial.elements.keys) → AreThere l.elements.nodes.items (value_in l.elements.keys);
  keys_spare : spare l.initial.elements.keys ≤ spare l.elements.keys;
  pending_spare : vec_len l.values.pending ≤ vec_len l.initial.values.pending + length l.yielded;
  pending_capacity : vec_capacity l.initial.values.pending ≤ vec_capacity l.values.pending;
}
