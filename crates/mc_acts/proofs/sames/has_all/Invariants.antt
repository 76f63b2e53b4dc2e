use Rattle.std.proofs.Common.{◌-◌}
use Rattle.mc_seats.proofs.MemberWords.{members}
use Rattle.mc_acts.proofs.SameFacts.{IsComparing}
use Rattle.mc_acts.proofs.sames.has_all.Given as goal

abbrev pub invariant-loop-position : goal.invariant-loop-position
invariant-loop-position g l = IsComparing (members g.K.Keeper g.K.Counted) l.fn.seats.items l.seats.items l.r l.other l.count l.position

abbrev pub decreases-loop-position : goal.decreases-loop-position
decreases-loop-position g l = l.count - l.position
