use Rattle.std.proofs.Common.{arith}
use Rattle.mc_base32.proofs.WordFacts.{fits}
use Rattle.mc_base32.proofs.decoding.word.Goals as goal

pub overflow_mul-word : goal.overflow_mul-word
overflow_mul-word c =
    let fit = fits c.loop-byte.word c.loop-byte.byte-index 0 c.loop-byte.invariant.small (omega arith) (omega arith) in
    omega (arith, fit)

pub overflow_add-word : goal.overflow_add-word
overflow_add-word c =
    let fit = fits c.loop-byte.word c.loop-byte.byte-index c.from.result c.loop-byte.invariant.small (omega arith) (omega (arith, c.in-Some.ensures.small)) in
    omega (arith, fit)
