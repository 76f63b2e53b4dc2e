use Rattle.std.proofs.Common.{◌≡◌, take}
use Rattle.mc_keep.specs.Changes.{heads_in_rows}
use Rattle.mc_model.specs.Made.{greatest_height}
use Rattle.mc_write.proofs.cut.greatest_height.Given as goal

abbrev pub invariant-loop-head : goal.invariant-loop-head
invariant-loop-head l = l.height ≡ greatest_height (heads_in_rows (take l.head-index l.heads))
