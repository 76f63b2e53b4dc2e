use Rattle.std.specs.HashMap.{keys}
use Rattle.std.proofs.Common.{◌≡◌}
use Rattle.std.specs.Prelude.{vec_len, vec_capacity}
use Rattle.mc_tables.specs.Places.{last_in}
use Rattle.mc_tombs.specs.Tombs.{has_tomb_in}
use Rattle.mc_tables.proofs.ChainFacts.{steps_left}
use Rattle.mc_tables.proofs.PruneFacts.{IsListing}
use Rattle.mc_tables.proofs.live.live_rows.Given as goal

abbrev pub invariant-loop-at : goal.invariant-loop-at
invariant-loop-at g l = record {
  listing : IsListing (keys l.graph.blocks) (has_tomb_in l.tombs.keys.keys l.tombs.ids.keys l.tombs.pairs.keys) l.key l.fn.elements.nodes.items l.elements.nodes.items (last_in l.fn.elements.keys) l.rows.items l.at;
  keys : l.elements.keys ≡ l.fn.elements.keys;
  len : vec_len l.elements.nodes ≡ vec_len l.fn.elements.nodes;
  capacity : vec_capacity l.elements.nodes ≡ vec_capacity l.fn.elements.nodes;
}

abbrev pub decreases-loop-at : goal.decreases-loop-at
decreases-loop-at g l = steps_left l.at
