use Rattle.std.proofs.Common.{◌≡◌, ◌≤◌, ◌+◌, ℕ, List, length}
use Rattle.std.specs.Prelude.{fold}
use Rattle.std.specs.HashSet.{spare}
use Rattle.mc_tombs.specs.Tombs.{has_tomb_in}
use Rattle.mc_live.specs.Hiding.{with_tomb}
use Rattle.mc_live.proofs.hiding.put_tombs.Given as goal

abbrev pub invariant-loop-row : goal.invariant-loop-row
invariant-loop-row l = record {
  tombs : (key id : List ℕ) → has_tomb_in l.tombs.keys.keys l.tombs.ids.keys l.tombs.pairs.keys key id ≡ fold (with_tomb key id) (has_tomb_in l.initial.tombs.keys.keys l.initial.tombs.ids.keys l.initial.tombs.pairs.keys key id) l.yielded;
  keys : spare l.initial.tombs.keys ≤ spare l.tombs.keys + length l.yielded;
  ids : spare l.initial.tombs.ids ≤ spare l.tombs.ids + length l.yielded;
  pairs : spare l.initial.tombs.pairs ≤ spare l.tombs.pairs + length l.yielded;
}
