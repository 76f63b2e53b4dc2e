use Rattle.std.proofs.Common.{◌≡◌, ◌++◌, take, map}
use Rattle.mc_rows.specs.declared.tombs.NewTomb.{NewTomb}
use Rattle.mc_rows.proofs.keys.add_tomb_keys.Given as goal

abbrev pub invariant-loop-tomb : goal.invariant-loop-tomb
invariant-loop-tomb l = l.keys.items ≡ l.initial.keys.items ++ map (λ (t : NewTomb). t.key) (take l.tomb-index l.tombs)
