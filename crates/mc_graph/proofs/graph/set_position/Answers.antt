use Rattle.std.proofs.Common.{◌≡◌, ◌∙◌, Some, None, refl, sym}
use Rattle.indexmap.specs.IndexMap.{with_value_at}
use Rattle.indexmap.proofs.CallerLemmas.{keys-with_value_at, updates-with_value_at}
use Rattle.mc_graph.specs.declared.graph.BlockRow.{BlockRow}
use Rattle.mc_graph.proofs.OrderFacts.{graph_kept, position_set, row_at_place, same_cid_equiv}
use Rattle.mc_graph.proofs.graph.set_position.Goals as goal

pub returns-in-Some-clause-keys : goal.returns-in-Some-clause-keys
returns-in-Some-clause-keys c = keys-with_value_at c.args.blocks.now c.args.place (record { bytes = c.in-Some.row.now.bytes; position = c.at-row.result })

pub returns-in-Some-clause-graph : goal.returns-in-Some-clause-graph
returns-in-Some-clause-graph c = graph_kept c.args.blocks.now.entries c.args.place c.in-Some.row.now (record { bytes = c.in-Some.row.now.bytes; position = c.at-row.result }) (sym c.in-Some.ensures.value) refl

pub returns-in-Some-clause-positions : goal.returns-in-Some-clause-positions
returns-in-Some-clause-positions c = λ cid row at.
    let new : BlockRow = record { bytes = c.in-Some.row.now.bytes; position = c.at-row.result } in
    position_set c.args.blocks.now (with_value_at c.args.blocks.now c.args.place new) cid new c.args.position c.at-row.ensures
    (updates-with_value_at c.args.blocks.now c.args.place new same_cid_equiv c.in-Some.ensures.unique cid row at).0

pub returns-in_default-clause-positions : goal.returns-in_default-clause-positions
returns-in_default-clause-positions c = λ cid row at.
    absurd (let f : None ≡ Some row = c.in_default.ensures.value ∙ row_at_place c.args.blocks.now c.args.place cid row at in cc)
