use Rattle.mc_base.proofs.VarintFacts.{IsWriting}
use Rattle.mc_base.proofs.varint.write_varint.Given as goal

abbrev pub invariant-loop-rest : goal.invariant-loop-rest
invariant-loop-rest l = IsWriting l.value l.rest l.len l.spelling

abbrev pub decreases-loop-rest : goal.decreases-loop-rest
decreases-loop-rest l = l.rest
