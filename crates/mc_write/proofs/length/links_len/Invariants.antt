use Rattle.std.proofs.Common.{◌≡◌, take}
use Rattle.mc_write.specs.Lengths.{capped, links_length}
use Rattle.mc_write.specs.Pairs.{row_cids}
use Rattle.mc_write.proofs.length.links_len.Given as goal

abbrev pub invariant-loop-head : goal.invariant-loop-head
invariant-loop-head l = l.len ≡ capped (links_length (row_cids (take l.head-index l.heads)))
