use Rattle.std.proofs.Common.{◌≡◌, [], ◌++◌, ◌-◌, drop}
use Rattle.mc_app.specs.Lines.{script_max}
use Rattle.mc_seats.specs.Keepers.{DesksStay}
use Rattle.mc_seats.specs.Pasts.{PastsFit}
use Rattle.mc_seats.specs.Words.{state, tally}
use Rattle.mc_app.proofs.KeepingFacts.{fused_members}
use Rattle.mc_seats.proofs.MemberWords.{members}
use Rattle.mc_app.proofs.SummingFacts.{IsSumming}
use Rattle.mc_app.proofs.summing.sum_script.Given as goal

abbrev pub invariant-loop-carried : goal.invariant-loop-carried
invariant-loop-carried g l = IsSumming ((l.world.entries ≡ []) × DesksStay (fused_members (members g.K.Keeper g.K.Counted)) g.K.Desk.Counted.faults l.fn.world.desks.items l.world.desks.items
    × PastsFit (state (fused_members (members g.K.Keeper g.K.Counted)) g.K.Desk.Counted.faults l.world) l.carried.pasts.items)
    (λ w. w ≡ state (fused_members (members g.K.Keeper g.K.Counted)) g.K.Desk.Counted.faults l.fn.world)
    (tally (fused_members (members g.K.Keeper g.K.Counted)) g.K.Desk.Counted.faults l.fn.world)
    l.fn.script (l.reader.ahead ++ drop l.source.at l.source.bytes) l.reader.given l.executed
    (state (fused_members (members g.K.Keeper g.K.Counted)) g.K.Desk.Counted.faults l.world)
    (tally (fused_members (members g.K.Keeper g.K.Counted)) g.K.Desk.Counted.faults l.world)
    l.fn.summary l.summary

abbrev pub decreases-loop-carried : goal.decreases-loop-carried
decreases-loop-carried g l = script_max - l.reader.given
