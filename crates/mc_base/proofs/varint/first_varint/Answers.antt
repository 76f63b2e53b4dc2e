use Rattle.std.proofs.Common.{◌<◌, arith, sym}
use Rattle.mc_base.proofs.VarintFacts.{IsAt, Fit, groups_fit, last_group, next_group}
use Rattle.mc_base.proofs.varint.first_varint.Goals as goal
use Rattle.mc_base.proofs.varint.first_varint.Goals.{else-byte-eq0-via-then-byte-eq0+else-at-gt0, else-byte-eq0-via-else-byte-eq0}

pub overflow_mul-result : goal.overflow_mul-result
overflow_mul-result c =
    let fit : Fit c.loop-at.value c.loop-at.weight c.from.result = groups_fit _ _ _ _ c.from.result c.loop-at.invariant (omega arith) (omega arith) in
    omega (arith, fit.product)

pub overflow_add-result : goal.overflow_add-result
overflow_add-result c =
    let fit : Fit c.loop-at.value c.loop-at.weight c.from.result = groups_fit _ _ _ _ c.from.result c.loop-at.invariant (omega arith) (omega arith) in
    omega (arith, fit.total)

pub overflow_mul-value : goal.overflow_mul-value
overflow_mul-value c =
    let fit : Fit c.loop-at.value c.loop-at.weight c.from-in-loop-at.result = groups_fit _ _ _ _ c.from-in-loop-at.result c.loop-at.invariant (omega arith) (omega arith) in
    omega (arith, fit.product)

pub overflow_add-value : goal.overflow_add-value
overflow_add-value c =
    let fit : Fit c.loop-at.value c.loop-at.weight c.from-in-loop-at.result = groups_fit _ _ _ _ c.from-in-loop-at.result c.loop-at.invariant (omega arith) (omega arith) in
    omega (arith, fit.total)

pub overflow_mul-weight : goal.overflow_mul-weight
overflow_mul-weight c =
    let fit : Fit c.loop-at.value c.loop-at.weight c.from-in-loop-at.result = groups_fit _ _ _ _ c.from-in-loop-at.result c.loop-at.invariant (omega arith) (omega arith) in
    omega (arith, fit.heavier)

pub loop-at-smaller : goal.loop-at-smaller
loop-at-smaller c = omega arith

pub loop-at-preserved : goal.loop-at-preserved
loop-at-preserved c =
    let found = c.in-Some.ensures.lookup in
    let is : IsAt c.args.bytes.now c.loop-at.at c.in-Some.field-0.now = record { within = found.3.0; is = sym (found.3.1 0) } in
    next_group _ _ _ _ _ _ c.loop-at.invariant (omega arith) is (omega arith) (omega (arith, c.type_inv.bytes c.loop-at.at, is.is)) c.from-in-loop-at.ensures

pub returns-then-byte-lt128-clause-read : goal.returns-then-byte-lt128-clause-read
returns-then-byte-lt128-clause-read c =
    let found = c.in-Some.ensures.lookup in
    let is : IsAt c.args.bytes.now c.loop-at.at c.in-Some.field-0.now = record { within = found.3.0; is = sym (found.3.1 0) } in
    let positive : 0 < c.loop-at.at → 0 < c.in-Some.field-0.now = elim c.else-byte-eq0.branch [ else-byte-eq0-via-then-byte-eq0+else-at-gt0 w ↦ omega arith | else-byte-eq0-via-else-byte-eq0 w ↦ omega arith ] in
    last_group _ _ _ _ _ _ c.loop-at.invariant (omega arith) is (omega arith) positive c.from.ensures
