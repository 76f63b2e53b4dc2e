use Rattle.std.proofs.Common.{◌≡◌}
use Rattle.std.specs.Prelude.{slice_get}
use Rattle.mc_tables.proofs.range.nth_key.Given as goal

abbrev pub invariant-loop-key : goal.invariant-loop-key
invariant-loop-key l = slice_get l.initial.key-iterator l.fn.place ≡ slice_get l.key-iterator l.left
