use Rattle.std.proofs.Common.{arith}
use Rattle.mc_base.proofs.FiveBits.{push_step}
use Rattle.mc_base.proofs.base32.push_digits.Goals as goal

pub loop-rest-preserved : goal.loop-rest-preserved
loop-rest-preserved c = push_step c.alphabet-alphabet.result.now c.loop-rest.text.items c.loop-rest.rest.now c.digits_of.result _ _ (omega arith) c.in_ok-extend_from_slice.ensures.items c.digits_of.ensures c.loop-rest.invariant
