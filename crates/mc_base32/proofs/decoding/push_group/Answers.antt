use Rattle.std.proofs.Common.{arith, refl}
use Rattle.mc_base32.proofs.GroupFacts.{is_read}
use Rattle.mc_base32.proofs.decoding.push_group.Goals as goal

pub returns-then-word-unit-ne0-clause-err : goal.returns-then-word-unit-ne0-clause-err
returns-then-word-unit-ne0-clause-err c =
    let read = is_read c.args.case c.args.at c.args.digits.now c.in_ok-word.word c.in_ok-word.ensures.digits c.in_ok-word.ensures.word (omega arith) c.if-count-eq1.false c.if-count-eq3.false c.if-count-eq6.false in
    rw c.into-then-word-unit-ne0.ensures (read.faulty c.if-word-unit-ne0.true)

pub returns-clause-ok : goal.returns-clause-ok
returns-clause-ok c =
    let read = is_read c.args.case c.args.at c.args.digits.now c.in_ok-word.word c.in_ok-word.ensures.digits c.in_ok-word.ensures.word (omega arith) c.if-count-eq1.false c.if-count-eq3.false c.if-count-eq6.false in
    rw (read.good c.if-word-unit-ne0.false, c.in_ok-extend_from_slice.ensures.ok, c.to_be_bytes.ensures) refl
