use Rattle.std.proofs.Common.{arith, refl}
use Rattle.mc_base.proofs.VarintFacts.{write_next}
use Rattle.mc_base.proofs.varint.write_varint.Goals as goal

pub loop-rest-preserved : goal.loop-rest-preserved
loop-rest-preserved c = write_next _ _ _ _ _ c.loop-rest.invariant (omega arith) refl
