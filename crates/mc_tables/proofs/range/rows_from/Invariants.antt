use Rattle.mc_tables.specs.Places.{value_in}
use Rattle.mc_tables.specs.Values.{row_in}
use Rattle.mc_tables.proofs.ListedFacts.{IsListing}
use Rattle.mc_tables.proofs.range.rows_from.Given as goal

abbrev pub invariant-loop-key : goal.invariant-loop-key
invariant-loop-key g l = IsListing (row_in l.elements.nodes.items (value_in l.elements.keys)) l.initial.key-iterator l.yielded l.key-iterator l.most l.rows
