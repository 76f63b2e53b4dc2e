use Rattle.std.proofs.Common.{◌∙◌, cond, ap}
use Rattle.std.specs.HashMap.{keys}
use Rattle.std.specs.Str.{bytes_eq}
use Rattle.mc_tables.specs.Chains.{rows_in}
use Rattle.mc_tables.specs.Places.{last_in, value_in}
use Rattle.mc_tables.specs.Values.{row_in}
use Rattle.mc_tables.proofs.WinnerFacts.{named_still, no_row, set_has, set_named, set_rows}
use Rattle.mc_tables.proofs.winners.name_block.Goals as goal

pub returns-then-is_named-clause-named : goal.returns-then-is_named-clause-named
returns-then-is_named-clause-named g c =
    let old = c.args.elements.now in
    named_still (keys c.args.graph.now.blocks) old.nodes.items (value_in old.keys) c.args.key.now c.args.cid.now (c.is_named.ensures c.if-is_named.true)

pub unreachable-requires : goal.unreachable-requires
unreachable-requires g c =
    let old = c.args.elements.now in
    no_row c.args.cid.now (row_in old.nodes.items (value_in old.keys) c.args.key.now) (rows_in (keys c.args.graph.now.blocks) old.nodes.items (last_in old.keys) c.args.key.now) c.requires.met c.in_default.ensures.row

pub returns-clause-named : goal.returns-clause-named
returns-clause-named g c =
    let old = c.args.elements.now in
    set_named (keys c.args.graph.now.blocks) old.nodes.items (last_in old.keys) (value_in old.keys) (value_in c.set_value-had.new.keys) c.args.key.now c.args.cid.now c.in-Some.place c.requires.met c.in-Some.ensures.row
    (λ other. c.set_value-had.ensures.values c.args.key.now c.in-Some.ensures.place other ∙ ap (λ z. cond (bytes_eq c.args.key.now other) z (value_in old.keys other)) c.at.ensures)

pub returns-clause-rows : goal.returns-clause-rows
returns-clause-rows g c =
    let old = c.args.elements.now in
    set_rows (keys c.args.graph.now.blocks) old.nodes.items (last_in old.keys) (value_in old.keys) (value_in c.set_value-had.new.keys) c.args.key.now c.args.cid.now c.in-Some.place c.requires.met c.in-Some.ensures.row
    (λ other. c.set_value-had.ensures.values c.args.key.now c.in-Some.ensures.place other ∙ ap (λ z. cond (bytes_eq c.args.key.now other) z (value_in old.keys other)) c.at.ensures)

pub returns-clause-has : goal.returns-clause-has
returns-clause-has g c =
    let old = c.args.elements.now in
    set_has (keys c.args.graph.now.blocks) old.nodes.items (last_in old.keys) (value_in old.keys) (value_in c.set_value-had.new.keys) c.args.key.now c.args.cid.now c.in-Some.place c.requires.met c.in-Some.ensures.row
    (λ other. c.set_value-had.ensures.values c.args.key.now c.in-Some.ensures.place other ∙ ap (λ z. cond (bytes_eq c.args.key.now other) z (value_in old.keys other)) c.at.ensures)
