use Rattle.std.specs.Prelude.{List}
use Rattle.mc_base.specs.declared.cid.Cid.{Cid}
use Rattle.mc_tables.specs.Places.{last_in}
use Rattle.mc_tables.specs.Chains.{rows_in}
use Rattle.mc_tables.specs.Values.{row_with}
use Rattle.mc_tables.proofs.ChainFacts.{steps_left}
use Rattle.mc_tables.proofs.WalkFacts.{IsWalking}
use Rattle.mc_tables.proofs.rows.place_with.Given as goal

-- no row of those before has the value
abbrev pub invariant-loop-at : goal.invariant-loop-at
invariant-loop-at g l = (cids : List Cid) → IsWalking cids l.elements.nodes.items l.key (row_with (l.priority, l.value) (rows_in cids l.elements.nodes.items (last_in l.elements.keys) l.key)) (row_with (l.priority, l.value)) l.at

abbrev pub decreases-loop-at : goal.decreases-loop-at
decreases-loop-at g l = steps_left l.at
