use Rattle.std.proofs.Common.{◌≡◌, ◌++◌, map, take}
use Rattle.mc_model.specs.Cuts.{Pair}
use Rattle.mc_write.specs.Pairs.{all_seen}
use Rattle.mc_write.proofs.dropped.joined.Given as goal

abbrev pub invariant-loop-pair : goal.invariant-loop-pair
invariant-loop-pair l = l.cids.items ≡ l.fn.held ++ map (λ (pair : Pair). pair.cid) (all_seen (take l.pair-index l.pairs))
