use Rattle.std.proofs.Common.{◌≡◌, ◌≤◌, ℕ, List, take}
use Rattle.std.specs.Prelude.{fold, is_some}
use Rattle.std.specs.HashMap.{keys, spare}
use Rattle.mc_tables.specs.Places.{last_in, value_in, texts_in}
use Rattle.mc_tables.specs.Values.{row_in}
use Rattle.mc_tables.specs.Winners.{named_after, named_in}
use Rattle.mc_tables.proofs.winners.put_winners.Given as goal

abbrev pub invariant-loop-change : goal.invariant-loop-change
invariant-loop-change g l = record {
  named : (key : List ℕ) → named_in (keys l.graph.blocks) l.elements.nodes.items (value_in l.elements.keys) key ≡ fold (named_after key) (named_in (keys l.graph.blocks) l.fn.elements.nodes.items (value_in l.fn.elements.keys) key) (take l.change-index l.changes);
  rows : (key : List ℕ) → row_in l.elements.nodes.items (value_in l.elements.keys) key ≡ row_in l.fn.elements.nodes.items (value_in l.fn.elements.keys) key;
  has : (key : List ℕ) → is_some (value_in l.elements.keys key) ≡ is_some (value_in l.fn.elements.keys key);
  nodes : l.elements.nodes ≡ l.fn.elements.nodes;
  lasts : (key : List ℕ) → last_in l.elements.keys key ≡ last_in l.fn.elements.keys key;
  texts : texts_in l.elements.keys ≡ texts_in l.fn.elements.keys;
  keys_spare : spare l.fn.elements.keys ≤ spare l.elements.keys;
}
