use Rattle.std.proofs.Common.{◌≡◌, true, take}
use Rattle.std.specs.List.{list_all}
use Rattle.mc_plan.specs.Deletes.{is_left}
use Rattle.mc_plan.proofs.deletes.have_priorities.Given as goal

abbrev pub invariant-loop-delta : goal.invariant-loop-delta
invariant-loop-delta l = list_all is_left (take l.delta-index l.deltas) ≡ true
