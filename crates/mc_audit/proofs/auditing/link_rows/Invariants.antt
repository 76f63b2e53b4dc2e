use Rattle.std.proofs.Common.{◌≡◌, take, map}
use Rattle.mc_raw.specs.RowTables.{link_line}
use Rattle.mc_audit.proofs.auditing.link_rows.Given as goal

abbrev pub invariant-loop-link : goal.invariant-loop-link
invariant-loop-link l = l.rows.items ≡ map link_line (take l.link-index l.links)
