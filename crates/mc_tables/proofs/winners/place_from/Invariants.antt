use Rattle.std.specs.HashMap.{keys}
use Rattle.mc_tables.specs.Places.{last_in}
use Rattle.mc_tables.specs.Chains.{rows_in}
use Rattle.mc_tables.specs.Values.{ranked_in}
use Rattle.mc_tables.specs.Winners.{row_with_cid}
use Rattle.mc_tables.proofs.ChainFacts.{steps_left}
use Rattle.mc_tables.proofs.WalkFacts.{IsWalking}
use Rattle.mc_tables.proofs.winners.place_from.Given as goal

-- no row of those before is of the block with the value
abbrev pub invariant-loop-at : goal.invariant-loop-at
invariant-loop-at g l =
    IsWalking (keys l.graph.blocks) l.elements.nodes.items l.key
    (row_with_cid l.cid (ranked_in l.held) (rows_in (keys l.graph.blocks) l.elements.nodes.items (last_in l.elements.keys) l.key))
    (row_with_cid l.cid (ranked_in l.held)) l.at

abbrev pub decreases-loop-at : goal.decreases-loop-at
decreases-loop-at g l = steps_left l.at
