use Rattle.std.proofs.Common.{arith, refl}
use Rattle.std.proofs.lemmas.Bool.Decides.{nat_tests}
use Rattle.std.proofs.lemmas.Result.{err_from_is_err_and}
use Rattle.mc_base32.proofs.TextFacts.{decoding_done, decoding_fault, decoding_next}
use Rattle.mc_base32.proofs.decoding.decode.Goals as goal

pub returns-clause-ok : goal.returns-clause-ok
returns-clause-ok c = decoding_done _ _ _ _ _ c.loop-rest.invariant (grind (arith, nat_tests, c.is_empty.ensures))

pub loop-rest-preserved : goal.loop-rest-preserved
loop-rest-preserved c = decoding_next _ _ _ c.loop-rest.rest.now _ _ _ _ c.loop-rest.invariant (rw (c.split_at.ensures.front, c.min.ensures) refl) (rw (c.split_at.ensures.back, c.min.ensures) refl) c.in_ok-push_group.ensures.ok

pub returns-in_err-push_group-clause-err : goal.returns-in_err-push_group-clause-err
returns-in_err-push_group-clause-err c =
    let p = err_from_is_err_and c.from_residual-in_err-push_group.result c.from_residual-in_err-push_group.ensures.1 in
    rw (p.1, p.2) (decoding_fault _ _ _ c.loop-rest.rest.now c.split_at.result.0.now _ _ c.loop-rest.invariant (rw (c.split_at.ensures.front, c.min.ensures) refl) c.in_err-push_group.ensures.err)
