use Rattle.std.proofs.Common.{◌≡◌, map}
use Rattle.mc_write.specs.Held.{elements_in}
use Rattle.mc_write.proofs.elements.elements_of_puts.Given as goal

abbrev pub invariant-loop-key : goal.invariant-loop-key
invariant-loop-key l = l.elements ≡ elements_in (map (λ entry. (entry.0.now, entry.1.now)) l.yielded)
