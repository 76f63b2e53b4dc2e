use Rattle.std.proofs.Common.{◌≤◌, ◌+◌, ◌-◌, vec_len, vec_capacity}
use Rattle.mc_seats.proofs.DeskFacts.{IsDesking}
use Rattle.mc_seats.proofs.MemberWords.{members}
use Rattle.mc_seats.proofs.parting.fill_desks.Given as goal

abbrev pub invariant-loop-made : goal.invariant-loop-made
invariant-loop-made g l = IsDesking (members g.K.Keeper g.K.Counted) g.K.Desk.Counted.faults l.fn.replica l.replica l.desks.items l._made × (vec_len l.desks + (16 - l._made) ≤ vec_capacity l.desks)
