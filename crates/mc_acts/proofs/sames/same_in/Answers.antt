use Rattle.std.proofs.Common.{sym, ◌∙◌}
use Rattle.mc_seats.proofs.MemberWords.{members}
use Rattle.mc_acts.proofs.SameRows.{same_refused, same_within}
use Rattle.mc_acts.proofs.sames.same_in.Goals as goal

pub returns : goal.returns
returns g c = let within = same_within (members g.K.Keeper g.K.Counted) g.K.Desk.Counted.faults c.args.world.now.seats.items c.args.world.now.bag c.args.r c.args.other c.requires.there in record { acts = same_refused (members g.K.Keeper g.K.Counted) g.K.Desk.Counted.faults c.args.r c.args.other c.args.world.now within.0 within.1 (sym c.are_up.ensures ∙ c.if-are_up.false) }
