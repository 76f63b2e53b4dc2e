use Rattle.std.proofs.Common.{◌≡◌, take}
use Rattle.mc_rows.specs.Rows.{tombs_of}
use Rattle.mc_rows.proofs.tombs.tomb_rows_from.Given as goal

abbrev pub invariant-loop-tomb : goal.invariant-loop-tomb
invariant-loop-tomb l = l.rows ≡ tombs_of (take l.tomb-index l.tombs)
