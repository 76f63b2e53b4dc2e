use Rattle.std.proofs.Common.{arith, lit<, rules}
use Rattle.std.proofs.lemmas.Bool.Decides.{nat_tests}
use Rattle.std.proofs.lemmas.Iterator.Consumers.{YieldsList-end, YieldsList-turn}
use Rattle.std.proofs.lemmas.Iterator.Splits.{YieldsList-from_str_split}
use Rattle.mc_key.proofs.SegmentFacts.{dots_found, empty_found, nothing_found}
use Rattle.mc_key.proofs.key.check_segments.Goals as goal

pub returns-then-is_empty-clause-fault : goal.returns-then-is_empty-clause-fault
returns-then-is_empty-clause-fault c =
    let turn = YieldsList-turn (YieldsList-from_str_split {s = c.into_iter-segment-iterator.result} 47 c.args.rest.now (lit< tt) (search rules) (search rules) (search rules))
    c.loop-segment.yielded c.loop-segment.segment-iterator c.loop-segment.yielded_by c.next.result c.next.new.self c.in-Some.segment c.in-Some.is c.next.ensures.steps in
    empty_found _ _ c.in-Some.segment.now turn (grind (arith, nat_tests, c.is_empty.ensures))

pub returns-then-has_dots-clause-fault : goal.returns-then-has_dots-clause-fault
returns-then-has_dots-clause-fault c =
    let end = YieldsList-end (YieldsList-from_str_split {s = c.into_iter-segment-iterator.result} 47 c.args.rest.now (lit< tt) (search rules) (search rules) (search rules))
    c.loop-segment.yielded _ c.loop-segment.yielded_by _ _ c.in-None.is c.next.ensures.steps in
    dots_found _ _ _ c.loop-segment.invariant end.0 c.if-has_dots.true

pub returns-clause-ok : goal.returns-clause-ok
returns-clause-ok c =
    let end = YieldsList-end (YieldsList-from_str_split {s = c.into_iter-segment-iterator.result} 47 c.args.rest.now (lit< tt) (search rules) (search rules) (search rules))
    c.loop-segment.yielded _ c.loop-segment.yielded_by _ _ c.in-None.is c.next.ensures.steps in
    nothing_found _ _ _ c.loop-segment.invariant end.0 c.if-has_dots.false
