use Rattle.mc_write.proofs.CutFacts.{next_is, none_fits}
use Rattle.mc_write.proofs.cut.next_delta.Goals as goal

pub returns-then-taken-eq0-clause-refused : goal.returns-then-taken-eq0-clause-refused
returns-then-taken-eq0-clause-refused c = λ cids len.
    rw c.in-Some.is (none_fits cids c.in-Some.priority c.args.key.now c.args.pairs.now c.args.links c.priority_len-base.result c.args.tomb c.room_for-taken.result c.block_len-len.result
    c.requires.digests c.requires.some c.priority_len-base.ensures.left len c.priority_len-base.ensures.len c.requires.tomb c.room_for-taken.ensures c.if-taken-eq0.true c.block_len-len.ensures)

pub returns-clause-cut : goal.returns-clause-cut
returns-clause-cut c = λ cids len. rw c.in-Some.is
    (next_is cids c.in-Some.priority c.args.key.now c.args.pairs.now c.args.links c.priority_len-base.result c.args.tomb c.room_for-taken.result c.new.result c.in_ok-tombstones.tombstones
    c.requires.digests c.priority_len-base.ensures.left len c.priority_len-base.ensures.len c.requires.tomb c.room_for-taken.ensures c.if-taken-eq0.false c.new.ensures c.in_ok-tombstones.ensures)
