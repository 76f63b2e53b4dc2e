use Rattle.std.proofs.Common.{◌≡◌, ◌∙◌, Some, None, true, false, cond, ap, List, [], ℕ}
use Rattle.std.specs.Prelude.{is_some}
use Rattle.std.specs.Str.{bytes_eq}
use Rattle.mc_base.specs.declared.cid.Cid.{Cid}
use Rattle.mc_model.specs.Rank.{Ranked}
use Rattle.mc_keep.specs.declared.rows.ElementRow.{ElementRow}
use Rattle.mc_tables.specs.Chains.{row_at, rows_in}
use Rattle.mc_tables.specs.Places.{last_in, value_in}
use Rattle.mc_tables.specs.Values.{row_with}
use Rattle.mc_tables.proofs.ValueFacts.{row_set, there_set}
use Rattle.mc_tables.proofs.values.place_row.Goals as goal

pub unreachable-requires : goal.unreachable-requires
unreachable-requires g c =
    let cids : List Cid = [] in
    let none : None ≡ row_with (c.args.value.priority, c.args.value.value) (rows_in cids c.args.elements.now.nodes.items (last_in c.args.elements.now.keys) c.args.key.now) =
    rw c.as_slice-bytes.ensures at c.in_default.ensures.row cids in
    let f : false ≡ true = ap is_some none ∙ c.requires.brought cids in
    cc

pub returns-clause-rows : goal.returns-clause-rows
returns-clause-rows g c =
    let cids : List Cid = [] in
    let nodes = c.args.elements.now.nodes.items in
    let ranked : Ranked = (c.args.value.priority, c.args.value.value) in
    let rows : List ElementRow = rows_in cids nodes (last_in c.args.elements.now.keys) c.args.key.now in
    let found : row_at cids nodes c.args.key.now c.in-Some.place ≡ row_with ranked rows =
    rw c.as_slice-bytes.ensures at c.in-Some.ensures.row cids in
    let placed : (other : List ℕ) → value_in c.set_value-had.new.keys other ≡ cond (bytes_eq c.args.key.now other) (Some c.in-Some.place) (value_in c.args.elements.now.keys other) =
    λ other. c.set_value-had.ensures.values c.args.key.now c.in-Some.ensures.place other ∙ ap (λ z. cond (bytes_eq c.args.key.now other) z (value_in c.args.elements.now.keys other)) c.at.ensures in
    row_set nodes (value_in c.args.elements.now.keys) (value_in c.set_value-had.new.keys) c.args.key.now cids c.in-Some.place ranked rows found (c.requires.brought cids) placed

pub returns-clause-there : goal.returns-clause-there
returns-clause-there g c =
    let cids : List Cid = [] in
    let nodes = c.args.elements.now.nodes.items in
    let ranked : Ranked = (c.args.value.priority, c.args.value.value) in
    let rows : List ElementRow = rows_in cids nodes (last_in c.args.elements.now.keys) c.args.key.now in
    let found : row_at cids nodes c.args.key.now c.in-Some.place ≡ row_with ranked rows =
    rw c.as_slice-bytes.ensures at c.in-Some.ensures.row cids in
    there_set cids nodes (value_in c.args.elements.now.keys) (value_in c.set_value-had.new.keys) c.args.key.now c.in-Some.place (ap is_some found ∙ c.requires.brought cids)
    (λ other. c.set_value-had.ensures.values c.args.key.now c.in-Some.ensures.place other ∙ ap (λ z. cond (bytes_eq c.args.key.now other) z (value_in c.args.elements.now.keys other)) c.at.ensures)
