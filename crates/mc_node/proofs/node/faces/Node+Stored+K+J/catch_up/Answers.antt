use Rattle.std.proofs.Common.{ap}
use Rattle.mc_node.proofs.FaceFacts.{seat_after, seat_begins, seat_tells, seat_whole}
use Rattle.mc_node.proofs.SeatFacts.{open_given}
use Rattle.mc_node.proofs.node.faces.Node+Stored+K+J.catch_up.Goals as goal

pub catch_up-result-requires-clause-begins : goal.catch_up-result-requires-clause-begins
catch_up-result-requires-clause-begins g c =
    seat_begins g.K.Keeper.told g.K.Keeper.fuse g.K.Keeper.own g.K.Counted.faults g.K.Keeper.quiet g.K.Keeper.schedule c.kept_is_durable.ensures.back _ c.take-held.result.value.replica.value _ _ _ c.args.face.now.list
    c.requires.begins.rooted c.requires.unsealed c.requires.begins.begins c.take-held.ensures.taken.seen c.take-held.result.value.tied c.requires.begins.face

pub catch_up-result-requires-clause-tells : goal.catch_up-result-requires-clause-tells
catch_up-result-requires-clause-tells g c =
    seat_tells g.K.Keeper.told g.K.Keeper.fuse g.K.Keeper.own g.K.Counted.faults g.K.Keeper.quiet g.K.Keeper.schedule _ c.take-held.result.value.replica.value _ _ g.X.Exactness.exact c.args.seat.now.rooted c.take-held.ensures.taken.seen c.take-held.result.value.tied c.requires.tells

pub returns-clause-open : goal.returns-clause-open
returns-clause-open g c = open_given _ _ _ _ c.take-held.ensures.taken.seen c.catch_up-result.ensures.extends (ap (λ v. v.seen) c.give.ensures.given)

pub returns-clause-whole : goal.returns-clause-whole
returns-clause-whole g c =
    seat_whole g.K.Keeper.told g.K.Keeper.fuse g.K.Keeper.own g.K.Counted.faults g.K.Keeper.quiet g.K.Keeper.schedule _ _ _ _ c.catch_up-result.new.face.list c.catch_up-result.result c.requires.unsealed
    c.take-held.ensures.taken.seen (ap (λ v. v.seen) c.give.ensures.given) c.catch_up-result.ensures.whole

pub returns-clause-begins : goal.returns-clause-begins
returns-clause-begins g c =
    seat_after g.K.Keeper.told g.K.Keeper.fuse g.K.Keeper.own g.K.Counted.faults g.K.Keeper.quiet g.K.Keeper.schedule _ _ _ _ _ _ _ c.args.face.now.list c.catch_up-result.new.face.list c.catch_up-result.result
    c.requires.begins.rooted c.requires.unsealed c.requires.begins.begins c.take-held.ensures.taken.seen c.catch_up-result.ensures.extends (ap (λ v. v.seen) c.give.ensures.given) c.catch_up-result.new.self.tied c.requires.begins.face
    c.catch_up-result.ensures.err
    c.catch_up-result.ensures.whole
