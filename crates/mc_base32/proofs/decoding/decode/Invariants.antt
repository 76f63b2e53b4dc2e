use Rattle.std.proofs.Common.{length}
use Rattle.mc_base32.proofs.TextFacts.{IsDecoding}
use Rattle.mc_base32.proofs.decoding.decode.Given as goal

abbrev pub invariant-loop-rest : goal.invariant-loop-rest
invariant-loop-rest l = IsDecoding l.case l.text l.bytes l.rest l.at

abbrev pub decreases-loop-rest : goal.decreases-loop-rest
decreases-loop-rest l = length l.rest
