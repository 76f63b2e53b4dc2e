use Rattle.std.proofs.Common.{drop}
use Rattle.std.proofs.Common.{◌≡◌, map}
use Rattle.mc_list.proofs.freeing.free_all.Given as goal

abbrev pub invariant-loop-link : goal.invariant-loop-link
invariant-loop-link g l = map (λ c. c.0) l.cells.cells ≡ drop l.link-index (map (λ k. k.at) l.table)
