use Rattle.std.proofs.Common.{◌≡◌, map, take}
use Rattle.mc_model.specs.Cuts.{pair_tomb}
use Rattle.mc_write.specs.Pairs.{all_seen}
use Rattle.mc_write.proofs.cut.tombs_of.Given as goal

abbrev pub invariant-loop-pair : goal.invariant-loop-pair
invariant-loop-pair l = l.tombs ≡ map (pair_tomb l.fn.key) (all_seen (take l.pair-index l.pairs))
