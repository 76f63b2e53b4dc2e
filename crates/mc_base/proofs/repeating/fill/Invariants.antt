use Rattle.mc_base.proofs.FillFacts.{IsFilling}
use Rattle.mc_base.proofs.repeating.fill.Given as goal

abbrev pub invariant-loop-i : goal.invariant-loop-i
invariant-loop-i l = IsFilling l.bytes l.first l.into l.i-end l.i l.at
