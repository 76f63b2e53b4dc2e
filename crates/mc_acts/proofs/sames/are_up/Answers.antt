use Rattle.mc_seats.proofs.MemberWords.{members}
use Rattle.mc_acts.proofs.SameRows.{same_within}
use Rattle.mc_acts.proofs.sames.are_up.Goals as goal

pub runs_at-requires : goal.runs_at-requires
runs_at-requires g c = let within = same_within (members g.K.Keeper g.K.Counted) g.K.Desk.Counted.faults c.args.world.now.seats.items c.args.world.now.bag c.args.r c.args.other c.requires.there in record { there = within.0 }
