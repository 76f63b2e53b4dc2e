use Rattle.std.proofs.Common.{ap}
use Rattle.mc_keep.proofs.Frames.{read_more}
use Rattle.mc_plan.specs.declared.deliveries.Taken.{Taken}
use Rattle.mc_plan.proofs.DeliverFacts.{events_told, known_told, new_told, some_told}
use Rattle.mc_plan.proofs.deliveries.plan_arrival.Goals as goal

pub plan_block-requires-clause-new : goal.plan_block-requires-clause-new
plan_block-requires-clause-new g c =
    rw (c.in_ok-taken.ensures.reads.told_same, c.in_ok-known.ensures.reads.told_same)
    (new_told _ c.args.cid.now c.in_ok-taken.taken c.in_ok-known.known c.in_ok-taken.ensures.good c.requires.new c.in_ok-known.ensures.row
    (rw (c.in_ok-known.ensures.reads.told_same) at c.in_ok-taken.ensures.stored))

pub plan_block-requires-clause-stored : goal.plan_block-requires-clause-stored
plan_block-requires-clause-stored g c =
    rw (c.in_ok-taken.ensures.reads.told_same, c.in_ok-known.ensures.reads.told_same)
    (known_told _ c.args.cid.now c.in_ok-taken.taken c.in_ok-known.known c.in_ok-taken.ensures.good c.in_ok-known.ensures.row)

pub returns-clause-uptake : goal.returns-clause-uptake
returns-clause-uptake g c =
    some_told _ _ _ _ _ (rw (c.in_ok-taken.ensures.reads.told_same, c.in_ok-known.ensures.reads.told_same) at c.plan_block.ensures.uptake)

pub returns-clause-events : goal.returns-clause-events
returns-clause-events g c =
    events_told _ _ c.args.cid.now c.args.bytes c.in_ok-taken.taken c.in_ok-known.known _ c.in_ok-taken.ensures.good c.in_ok-known.ensures.row (λ e. ap (λ (t : Taken). t.bytes) (c.in_ok-taken.ensures.found e))
    (rw (c.in_ok-taken.ensures.reads.told_same, c.in_ok-known.ensures.reads.told_same) at c.plan_block.ensures.uptake)

pub returns-clause-reads : goal.returns-clause-reads
returns-clause-reads g c = read_more (read_more c.in_ok-known.ensures.reads c.in_ok-taken.ensures.reads) c.plan_block.ensures.reads
