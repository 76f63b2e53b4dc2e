use Rattle.std.proofs.Common.{◌≡◌, map}
use Rattle.mc_model.specs.Batch.{deleted_tomb}
use Rattle.mc_write.specs.Held.{deleted_in}
use Rattle.mc_write.proofs.dropped.tombs_of_dropped.Given as goal

abbrev pub invariant-loop-key : goal.invariant-loop-key
invariant-loop-key l = l.tombs ≡ map deleted_tomb (deleted_in (map (λ entry. (entry.0.now, entry.1.now)) l.yielded))
