use Rattle.std.proofs.Common.{◌≡◌, take}
use Rattle.mc_keep.specs.Changes.{heads_in_rows}
use Rattle.mc_seats.proofs.replies.heads_of.Given as goal

abbrev pub invariant-loop-row : goal.invariant-loop-row
invariant-loop-row l = l.heads ≡ heads_in_rows (take l.row-index l.rows)
