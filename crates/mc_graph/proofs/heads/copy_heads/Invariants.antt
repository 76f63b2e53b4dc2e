use Rattle.std.proofs.Common.{◌≡◌, map}
use Rattle.mc_keep.specs.Changes.{heads_in_rows}
use Rattle.mc_graph.proofs.heads.copy_heads.Given as goal

abbrev pub invariant-loop-cid : goal.invariant-loop-cid
invariant-loop-cid l = heads_in_rows l.rows.items ≡ map (λ entry. (entry.0.now, entry.1.now)) l.yielded
