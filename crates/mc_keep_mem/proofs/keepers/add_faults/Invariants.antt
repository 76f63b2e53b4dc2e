use Rattle.std.proofs.Common.{◌≡◌}
use Rattle.std.specs.Prelude.{fold, take}
use Rattle.mc_keep_mem.specs.Desks.{counted_with}
use Rattle.mc_keep_mem.proofs.keepers.add_faults.Given as goal

abbrev pub invariant-loop-desk : goal.invariant-loop-desk
invariant-loop-desk l = l.count ≡ fold counted_with l.fn.count (take l.desk-index l.desks)
