use Rattle.std.proofs.Common.{arith}
use Rattle.mc_base.proofs.FiveBits.{digits_of_none, digits_of_one, digits_of_two, digits_of_three, digits_of_four}
use Rattle.mc_base.proofs.base32.last_digits.Goals as goal

pub returns-in-empty-clause-digits : goal.returns-in-empty-clause-digits
returns-in-empty-clause-digits c = digits_of_none c.args.alphabet.now c.args.rest.now (omega arith)

pub returns-in-len1-clause-digits : goal.returns-in-len1-clause-digits
returns-in-len1-clause-digits c = rw c.digits_of.ensures (digits_of_one c.args.alphabet.now c.args.rest.now (omega arith))

pub returns-in-len2-clause-digits : goal.returns-in-len2-clause-digits
returns-in-len2-clause-digits c = rw c.digits_of-in-len2.ensures (digits_of_two c.args.alphabet.now c.args.rest.now (omega arith))

pub returns-in-len3-clause-digits : goal.returns-in-len3-clause-digits
returns-in-len3-clause-digits c = rw c.digits_of-in-len3.ensures (digits_of_three c.args.alphabet.now c.args.rest.now (omega arith))

pub returns-in-len4-clause-digits : goal.returns-in-len4-clause-digits
returns-in-len4-clause-digits c = rw c.digits_of-in-len4.ensures (digits_of_four c.args.alphabet.now c.args.rest.now (omega arith))
