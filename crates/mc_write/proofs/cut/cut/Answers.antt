use Rattle.std.proofs.Common.{length, ◌<◌, arith}
use Rattle.std.proofs.lemmas.Bool.Decides.{nat_tests}
use Rattle.std.proofs.lemmas.Result.{err_from_is_err_and}
use Rattle.mc_write.specs.Cutting.{number}
use Rattle.mc_write.specs.Pairs.{all_seen}
use Rattle.mc_write.proofs.CutFacts.{cutting_goes_on, cutting_ends, cutting_refused, digests_left, none_seen, some_seen}
use Rattle.mc_write.proofs.cut.cut.Goals as goal

pub returns-in_err-delta-clause-refused : goal.returns-in_err-delta-clause-refused
returns-in_err-delta-clause-refused c =
    let l = c.loop-rest in
    let any : 0 < length l.rest.now = grind (arith, nat_tests, c.is_empty.ensures, c.loop-rest-test.true) in
    let p = err_from_is_err_and c.from_residual.result c.from_residual.ensures.1 in
    rw (p.1, p.2) (λ cids len.
    let cutting = l.invariant.cutting cids len in
    cutting_refused cids (number c.args.priority) c.args.key.now (all_seen c.args.pairs.now) l.links (number l.priority) (all_seen l.rest.now) l.deltas c.in_err-delta.field-0.0 cutting
    c.tomb_len-tomb.ensures.some c.tomb_len-tomb.ensures.short l.invariant.digests (some_seen l.rest.now any) (c.in_err-delta.ensures.refused cutting.links cutting.len_is))

pub loop-rest-preserved : goal.loop-rest-preserved
loop-rest-preserved c =
    let l = c.loop-rest in
    let delta = c.in_ok-delta.delta in
    let left = rw c.len.ensures at c.rest_of-rest.ensures.rest in
    record {
      digests = digests_left (length delta.tombstones) (all_seen l.rest.now) (all_seen c.rest_of-rest.result.now) l.invariant.digests left;
      cutting = λ cids len.
          let cutting = l.invariant.cutting cids len in
          let next = c.in_ok-delta.ensures.cut cutting.links cutting.len_is in
          cutting_goes_on cids (number c.args.priority) c.args.key.now (all_seen c.args.pairs.now) l.links (number l.priority) (all_seen l.rest.now) l.deltas delta (number c.after-priority.result) (all_seen c.rest_of-rest.result.now) c.push_delta.new.deltas
          cutting next (c.after-priority.ensures next.left) left c.in_ok-push_delta.ensures;
    }

pub returns-clause-cuts : goal.returns-clause-cuts
returns-clause-cuts c = λ cids len.
    let l = c.loop-rest in
    cutting_ends cids (number c.args.priority) c.args.key.now (all_seen c.args.pairs.now) l.links (number l.priority) (all_seen l.rest.now) l.deltas (l.invariant.cutting cids len)
    (none_seen l.rest.now (grind (arith, nat_tests, c.is_empty.ensures)))
