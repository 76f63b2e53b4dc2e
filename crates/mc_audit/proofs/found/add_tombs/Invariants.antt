use Rattle.std.proofs.Common.{◌≡◌, ◌++◌, take, map}
use Rattle.mc_raw.specs.RowTables.{tomb_line}
use Rattle.mc_audit.proofs.found.add_tombs.Given as goal

abbrev pub invariant-loop-tomb : goal.invariant-loop-tomb
invariant-loop-tomb l = l.rows.items ≡ l.initial.rows.items ++ map tomb_line (take l.tomb-index l.tombs)
