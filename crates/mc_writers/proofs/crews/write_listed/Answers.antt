use Rattle.std.proofs.Common.{subst, ◌<◌}
use Rattle.mc_writers.specs.Crews.{HasStormed}
use Rattle.mc_node.specs.Entries.{items_at}
use Rattle.mc_node.specs.Seats.{knows}
use Rattle.mc_turn.specs.Seats.{IsSeatOf}
use Rattle.mc_writers.proofs.StormCrews.{pointwise_map, pointwise_total}
use Rattle.mc_writers.proofs.crews.write_listed.Goals as goal

pub returns-clause-owned : goal.returns-clause-owned
returns-clause-owned g c = λ k d lt. (c.write_slice.ensures.stormed k d (subst (λ n. k < n) c.write_slice.ensures.length lt)).own

pub returns-clause-written : goal.returns-clause-written
returns-clause-written g c = λ k d lt. (c.write_slice.ensures.stormed k d (subst (λ n. k < n) c.write_slice.ensures.length lt)).written

pub returns-clause-numbered : goal.returns-clause-numbered
returns-clause-numbered g c =
    pointwise_map (λ old new. HasStormed (IsSeatOf c.args.node.now.turn new.seat.seat) c.args.writes old.number new.number new.wrote (items_at g.K.Keeper.told g.K.Keeper.fuse g.K.Keeper.own g.K.Counted.faults g.K.Keeper.quiet g.K.Keeper.schedule (knows new.seat).seen) (knows old.seat) (knows new.seat)) _
    (λ x y r. r.number_same) _ _ c.write_slice.ensures.length c.write_slice.ensures.stormed

pub returns-clause-parts : goal.returns-clause-parts
returns-clause-parts g c =
    pointwise_total (λ old new. HasStormed (IsSeatOf c.args.node.now.turn new.seat.seat) c.args.writes old.number new.number new.wrote (items_at g.K.Keeper.told g.K.Keeper.fuse g.K.Keeper.own g.K.Counted.faults g.K.Keeper.quiet g.K.Keeper.schedule (knows new.seat).seen) (knows old.seat) (knows new.seat)) _
    (λ x y r. r.parts_same) _ _ c.write_slice.ensures.length c.write_slice.ensures.stormed
