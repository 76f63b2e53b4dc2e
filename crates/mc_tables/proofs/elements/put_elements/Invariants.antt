use Rattle.std.proofs.Common.{◌≡◌, ◌≤◌, true, ◌+◌, ℕ, List, length}
use Rattle.std.specs.Prelude.{fold, vec_len, vec_capacity}
use Rattle.std.specs.HashMap.{spare, keys}
use Rattle.mc_tables.specs.Chains.{are_stored, rows_in, with_element, KeepsNodes}
use Rattle.mc_tables.specs.Places.{last_in, value_in, texts_in, KeepsTexts}
use Rattle.mc_tables.proofs.elements.put_elements.Given as goal

abbrev pub invariant-loop-row : goal.invariant-loop-row
invariant-loop-row g l = record {
  rows : (key : List ℕ) → rows_in (keys l.graph.blocks) l.elements.nodes.items (last_in l.elements.keys) key ≡ fold (with_element key) (rows_in (keys l.graph.blocks) l.initial.elements.nodes.items (last_in l.initial.elements.keys) key) l.yielded;
  values : (key : List ℕ) → value_in l.elements.keys key ≡ value_in l.initial.elements.keys key;
  texts : KeepsTexts (texts_in l.initial.elements.keys) (texts_in l.elements.keys);
  blocks : are_stored (keys l.graph.blocks) l.initial.elements.nodes.items ≡ true → are_stored (keys l.graph.blocks) l.elements.nodes.items ≡ true;
  stays : KeepsNodes l.initial.elements.nodes.items l.elements.nodes.items;
  nodes : vec_len l.elements.nodes ≤ vec_len l.initial.elements.nodes + length l.yielded;
  capacity : vec_capacity l.initial.elements.nodes ≤ vec_capacity l.elements.nodes;
  keys : spare l.initial.elements.keys ≤ spare l.elements.keys + length l.yielded;
}
