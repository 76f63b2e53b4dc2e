use Rattle.std.proofs.Common.{map}
use Rattle.mc_query.specs.Places.{pair_of}
use Rattle.mc_face.specs.Pairs.{pairs_of}
use Rattle.mc_face.specs.Rows.{rows_of}
use Rattle.mc_face.proofs.RowFacts.{IsListing}
use Rattle.mc_face.proofs.rows.rows.Given as goal

abbrev pub invariant-loop-key : goal.invariant-loop-key
invariant-loop-key l = IsListing l.prefix (rows_of (pairs_of l.values.entries) l.prefix l.skip l.count) l.count l.key-iterator (map pair_of l.rows) l.left
