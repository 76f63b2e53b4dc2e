use Rattle.std.proofs.Common.{◌≡◌, vec_len}
use Rattle.mc_app.proofs.KeepingFacts.{IsGivingBack}
use Rattle.mc_app.proofs.keeping.give_back.Given as goal

abbrev pub invariant-loop-parts : goal.invariant-loop-parts
invariant-loop-parts g l = IsGivingBack g.K.Keepers.takes g.K.K.Counted.faults g.K.K.Desk.Counted.faults g.K.Keepers.lost l.fn.keepers l.fn.parts l.parts.items l.keepers × (g.K.Counted.faults l.keepers ≡ g.K.Counted.faults l.fn.keepers)

abbrev pub decreases-loop-parts : goal.decreases-loop-parts
decreases-loop-parts g l = vec_len l.parts
