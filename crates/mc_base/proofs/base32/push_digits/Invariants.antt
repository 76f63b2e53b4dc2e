use Rattle.std.proofs.Common.{◌≡◌, ◌++◌, length}
use Rattle.mc_base.proofs.FiveBits.{digits}
use Rattle.mc_base.proofs.base32.push_digits.Given as goal

abbrev pub invariant-loop-rest : goal.invariant-loop-rest
invariant-loop-rest l = l.text.items ++ digits l.alphabet l.rest ≡ l.initial.text.items ++ digits l.alphabet l.bytes

abbrev pub decreases-loop-rest : goal.decreases-loop-rest
decreases-loop-rest l = length l.rest
