use Rattle.std.proofs.Common.{arith}
use Rattle.mc_base.proofs.FiveBits.{group_by_table}
use Rattle.mc_base.proofs.base32.digits_of.Goals as goal

pub returns : goal.returns
returns c = group_by_table c.args.alphabet.now c.args.a c.args.b c.args.c c.args.d c.args.e (omega arith) (omega arith) (omega arith) (omega arith) (omega arith) _ _ _ _ _ _ _ _ c.from.ensures c.from-2.ensures c.from-3.ensures c.from-4.ensures c.from-5.ensures c.from-6.ensures c.from-7.ensures c.from-8.ensures
