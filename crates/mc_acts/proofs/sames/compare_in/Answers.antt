use Rattle.std.proofs.Common.{refl, rules}
use Rattle.mc_seats.proofs.MemberWords.{members}
use Rattle.mc_acts.proofs.SameRows.{same_done, same_failed, same_short, same_within, up_first, up_second}
use Rattle.mc_seats.proofs.SeatFacts.{still_desked, still_roomy}
use Rattle.mc_acts.proofs.sames.compare_in.Goals as goal

pub compare-requires : goal.compare-requires
compare-requires g c = record {
  there = (same_within (members g.K.Keeper g.K.Counted) g.K.Desk.Counted.faults c.args.world.now.seats.items c.args.world.now.bag c.args.r c.args.other c.requires.there);
  up = (up_first (members g.K.Keeper g.K.Counted) g.K.Desk.Counted.faults c.args.world.now.seats.items c.args.r c.args.other c.requires.up, up_second (members g.K.Keeper g.K.Counted) g.K.Desk.Counted.faults c.args.world.now.seats.items c.args.r c.args.other c.requires.up);
}

pub invariant_of-world : goal.invariant_of-world
invariant_of-world g c = record {
  desked = still_desked _ _ _ c.compare.ensures.len (search rules);
  counted = c.args.world.now.counted;
  empty = search rules;
  roomy = still_roomy _ _ _ c.compare.ensures.len c.args.world.now.roomy;
}

pub returns-in-Ok : goal.returns-in-Ok
returns-in-Ok g c = let within = (same_within (members g.K.Keeper g.K.Counted) g.K.Desk.Counted.faults c.args.world.now.seats.items c.args.world.now.bag c.args.r c.args.other c.requires.there) in record { acts = same_done (members g.K.Keeper g.K.Counted) g.K.Desk.Counted.faults (record { desks = refl; bag = refl; down = refl; entries = refl }) within.0 within.1 (up_first (members g.K.Keeper g.K.Counted) g.K.Desk.Counted.faults c.args.world.now.seats.items c.args.r c.args.other c.requires.up) (up_second (members g.K.Keeper g.K.Counted) g.K.Desk.Counted.faults c.args.world.now.seats.items c.args.r c.args.other c.requires.up) c.in-Ok.yes c.in-Ok.ensures.acts c.in-Ok.ensures.same }

pub returns-in-Err-Fault : goal.returns-in-Err-Fault
returns-in-Err-Fault g c = let within = (same_within (members g.K.Keeper g.K.Counted) g.K.Desk.Counted.faults c.args.world.now.seats.items c.args.world.now.bag c.args.r c.args.other c.requires.there) in let acts = rw (c.in-Err-Fault.field-0-is) at c.in-Err-Fault.ensures.acts in record { acts = same_failed (members g.K.Keeper g.K.Counted) g.K.Desk.Counted.faults (record { desks = refl; bag = refl; down = refl; entries = refl }) within.0 within.1 (up_first (members g.K.Keeper g.K.Counted) g.K.Desk.Counted.faults c.args.world.now.seats.items c.args.r c.args.other c.requires.up) (up_second (members g.K.Keeper g.K.Counted) g.K.Desk.Counted.faults c.args.world.now.seats.items c.args.r c.args.other c.requires.up) _ acts.0 acts.1 }

pub returns-in-Err-TooMany : goal.returns-in-Err-TooMany
returns-in-Err-TooMany g c = let within = (same_within (members g.K.Keeper g.K.Counted) g.K.Desk.Counted.faults c.args.world.now.seats.items c.args.world.now.bag c.args.r c.args.other c.requires.there) in record { acts = same_short (members g.K.Keeper g.K.Counted) g.K.Desk.Counted.faults (record { desks = refl; bag = refl; down = refl; entries = refl }) within.0 within.1 (up_first (members g.K.Keeper g.K.Counted) g.K.Desk.Counted.faults c.args.world.now.seats.items c.args.r c.args.other c.requires.up) (up_second (members g.K.Keeper g.K.Counted) g.K.Desk.Counted.faults c.args.world.now.seats.items c.args.r c.args.other c.requires.up) (rw (c.in-Err-TooMany.field-0-is) at c.in-Err-TooMany.ensures.acts) c.requires.there }
