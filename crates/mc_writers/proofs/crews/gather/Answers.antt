use Rattle.std.proofs.Common.{refl, arith}
use Rattle.mc_node.specs.Seats.{knows}
use Rattle.mc_writers.proofs.Gathering.{gathering_mine, gathering_on, gathering_start, gathering_written}
use Rattle.mc_writers.proofs.StormCrews.{item_at}
use Rattle.mc_writers.proofs.crews.gather.Goals as goal

pub loop-writer-init : goal.loop-writer-init
loop-writer-init g c = gathering_start _ _ _ _ _ _ _ _ _ _ _ c.requires.own c.requires.unused c.into_iter-rest.ensures.rest refl c.requires.owned c.requires.written c.requires.numbered

pub join-requires : goal.join-requires
join-requires g c = record { own = (c.loop-writer.invariant.own, gathering_mine (item_at g.K.Keeper.told g.K.Keeper.fuse g.K.Keeper.own g.K.Counted.faults g.K.Keeper.quiet g.K.Keeper.schedule) _ _ _ _ _ _ _ _ _ _ _ _ c.loop-writer.invariant c.in-Some.writer _ c.in-Some.ensures.items) }

pub both-wrote-requires-clause-more : goal.both-wrote-requires-clause-more
both-wrote-requires-clause-more g c =
    let w = gathering_written (item_at g.K.Keeper.told g.K.Keeper.fuse g.K.Keeper.own g.K.Counted.faults g.K.Keeper.quiet g.K.Keeper.schedule) _ _ _ _ _ _ _ _ _ _ _ _ c.loop-writer.invariant c.in-Some.writer _ c.in-Some.ensures.items in
    let m = w.ran.made_most in let n = w.ran.same_most in let s = c.requires.short in (omega (arith, m, s), omega (arith, n, s))

pub loop-writer-preserved : goal.loop-writer-preserved
loop-writer-preserved g c =
    gathering_on (item_at g.K.Keeper.told g.K.Keeper.fuse g.K.Keeper.own g.K.Counted.faults g.K.Keeper.quiet g.K.Keeper.schedule) _ _ _ _ _ _ _ _ _ _ _ _ c.loop-writer.invariant c.in-Some.writer _ _ _ c.in-Some.writer.wrote (knows c.in-Some.writer.seat) _ c.in-Some.ensures.items c.join.ensures.own c.join.ensures.joined c.join.ensures.one.0 c.join.ensures.one.1
    (gathering_written (item_at g.K.Keeper.told g.K.Keeper.fuse g.K.Keeper.own g.K.Counted.faults g.K.Keeper.quiet g.K.Keeper.schedule) _ _ _ _ _ _ _ _ _ _ _ _ c.loop-writer.invariant c.in-Some.writer _ c.in-Some.ensures.items) refl c.both-wrote.ensures
