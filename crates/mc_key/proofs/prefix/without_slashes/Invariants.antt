use Rattle.std.proofs.Common.{◌≡◌, length}
use Rattle.mc_key.specs.Prefix.{without_slashes}
use Rattle.mc_key.proofs.prefix.without_slashes.Given as goal

abbrev pub invariant-loop-rest : goal.invariant-loop-rest
invariant-loop-rest l = without_slashes l.rest ≡ without_slashes l.bytes

abbrev pub decreases-loop-rest : goal.decreases-loop-rest
decreases-loop-rest l = length l.rest
