use Rattle.std.proofs.Common.{◌≡◌, take}
use Rattle.mc_write.specs.Pairs.{row_cids}
use Rattle.mc_files.proofs.exporting.cids_of.Given as goal

abbrev pub invariant-loop-head : goal.invariant-loop-head
invariant-loop-head l = l.cids ≡ row_cids (take l.head-index l.heads)
