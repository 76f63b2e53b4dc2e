use Rattle.std.proofs.Common.{◌≡◌, false, take}
use Rattle.mc_plan.specs.Deletes.{has_made}
use Rattle.mc_plan.proofs.deletes.has_made.Given as goal

abbrev pub invariant-loop-made : goal.invariant-loop-made
invariant-loop-made l = has_made (take l.made-index l.before) l.cid ≡ false
