use Rattle.std.proofs.Common.{length}
use Rattle.mc_app.proofs.EndFacts.{parts_counted, parts_desks, parts_full, parts_told}
use Rattle.mc_seats.proofs.MemberWords.{members}
use Rattle.mc_seats.proofs.OpeningFacts.{counts_of_desked, second_true}
use Rattle.mc_app.proofs.running.close.Goals as goal

pub returns-clause-told : goal.returns-clause-told
returns-clause-told g c = rw c.end.ensures (parts_told (members g.K.Keeper g.K.Counted) g.K.Desk.Counted.faults _ _ (counts_of_desked (length c.args.world.seats.items) _ c.args.world.desked))

pub returns-clause-counted : goal.returns-clause-counted
returns-clause-counted g c = rw c.end.ensures (parts_counted (members g.K.Keeper g.K.Counted) g.K.Desk.Counted.faults _ _ (counts_of_desked (length c.args.world.seats.items) _ c.args.world.desked))

pub returns-clause-full : goal.returns-clause-full
returns-clause-full g c = rw c.end.ensures (parts_full (members g.K.Keeper g.K.Counted) g.K.Desk.Counted.faults c.args.world.seats.items c.args.world.desks.items (second_true _ _ c.args.world.desked))

pub returns-clause-desks : goal.returns-clause-desks
returns-clause-desks g c = rw c.end.ensures (parts_desks (members g.K.Keeper g.K.Counted) g.K.Desk.Counted.faults _ _ (counts_of_desked (length c.args.world.seats.items) _ c.args.world.desked))
