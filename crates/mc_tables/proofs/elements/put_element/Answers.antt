use Rattle.std.proofs.Common.{◌≡◌, ◌∙◌, ◌++◌, ◌∷◌, [], true, ap, sym, subst, cond, Some, length, ℕ, List}
use Rattle.std.specs.HashMap.{keys}
use Rattle.std.specs.Str.{bytes_eq}
use Rattle.std.proofs.lemmas.Option.{slice_get_within}
use Rattle.mc_keep.specs.declared.rows.ElementRow.{ElementRow}
use Rattle.mc_tables.specs.declared.elements.Node.{Node}
use Rattle.mc_tables.specs.Chains.{are_stored, row_of_node, KeepsNodes}
use Rattle.mc_tables.specs.Places.{last_in}
use Rattle.mc_tables.proofs.ChainFacts.{push_keeps, row_put, IsRowPut}
use Rattle.mc_tables.proofs.StoredFacts.{cid_there, stored_push}
use Rattle.mc_tables.proofs.elements.put_element.Goals as goal

pub invariant_of-elements : goal.invariant_of-elements
invariant_of-elements g c =
    let cids = keys c.args.graph.now.blocks in
    let pushed = c.push_reserved.ensures.items ∙ ap (λ (n : Node). c.args.elements.now.nodes.items ++ n ∷ []) c.node_with-node.ensures in
    let node : Node = record { block = c.place_of-block.result; priority = c.args.row.priority; value = c.args.row.value; before = c.set_last-before.result } in
    let updates : (other : List ℕ) → last_in c.set_last-before.new.keys other ≡ cond (bytes_eq c.args.row.key other) (Some (length c.args.elements.now.nodes.items)) (last_in c.args.elements.now.keys other) = λ other. c.set_last-before.ensures.lasts other ∙ ap (λ z. cond (bytes_eq c.args.row.key other) (Some z) (last_in c.args.elements.now.keys other)) c.count_of-place.ensures in
    let put = row_put cids c.args.elements.now.nodes.items (last_in c.args.elements.now.keys) (last_in c.set_last-before.new.keys) c.args.row.key node c.args.elements.now.chains c.set_last-before.ensures.before updates in
    record { chains = (subst (λ z. IsRowPut cids c.args.elements.now.nodes.items z (last_in c.args.elements.now.keys) (last_in c.set_last-before.new.keys) (row_of_node cids c.args.row.key node)) (sym pushed) put).chains }

pub returns-clause-rows : goal.returns-clause-rows
returns-clause-rows g c =
    let cids = keys c.args.graph.now.blocks in
    let pushed = c.push_reserved.ensures.items ∙ ap (λ (n : Node). c.args.elements.now.nodes.items ++ n ∷ []) c.node_with-node.ensures in
    let node : Node = record { block = c.place_of-block.result; priority = c.args.row.priority; value = c.args.row.value; before = c.set_last-before.result } in
    let updates : (other : List ℕ) → last_in c.set_last-before.new.keys other ≡ cond (bytes_eq c.args.row.key other) (Some (length c.args.elements.now.nodes.items)) (last_in c.args.elements.now.keys other) = λ other. c.set_last-before.ensures.lasts other ∙ ap (λ z. cond (bytes_eq c.args.row.key other) (Some z) (last_in c.args.elements.now.keys other)) c.count_of-place.ensures in
    let put = row_put cids c.args.elements.now.nodes.items (last_in c.args.elements.now.keys) (last_in c.set_last-before.new.keys) c.args.row.key node c.args.elements.now.chains c.set_last-before.ensures.before updates in
    let is = cid_there cids c.place_of-block.result c.args.row.cid c.place_of-block.ensures in
    let row : row_of_node cids c.args.row.key node ≡ c.args.row = λ i. record { key = c.args.row.key; cid = is i; priority = c.args.row.priority; value = c.args.row.value } in
    (subst (λ (z : ElementRow). IsRowPut cids c.args.elements.now.nodes.items c.push_reserved.new.self.items (last_in c.args.elements.now.keys) (last_in c.set_last-before.new.keys) z) row
    (subst (λ z. IsRowPut cids c.args.elements.now.nodes.items z (last_in c.args.elements.now.keys) (last_in c.set_last-before.new.keys) (row_of_node cids c.args.row.key node)) (sym pushed) put)).rows

pub returns-clause-blocks : goal.returns-clause-blocks
returns-clause-blocks g c = λ stored.
    let cids = keys c.args.graph.now.blocks in
    let pushed = c.push_reserved.ensures.items ∙ ap (λ (n : Node). c.args.elements.now.nodes.items ++ n ∷ []) c.node_with-node.ensures in
    let node : Node = record { block = c.place_of-block.result; priority = c.args.row.priority; value = c.args.row.value; before = c.set_last-before.result } in
    subst (λ (z : List Node). are_stored cids z ≡ true) (sym pushed)
    (stored_push cids c.args.elements.now.nodes.items node (slice_get_within cids c.place_of-block.result c.args.row.cid c.place_of-block.ensures) stored)

pub returns-clause-stays : goal.returns-clause-stays
returns-clause-stays g c =
    let pushed = c.push_reserved.ensures.items ∙ ap (λ (n : Node). c.args.elements.now.nodes.items ++ n ∷ []) c.node_with-node.ensures in
    let node : Node = record { block = c.place_of-block.result; priority = c.args.row.priority; value = c.args.row.value; before = c.set_last-before.result } in
    subst (λ z. KeepsNodes c.args.elements.now.nodes.items z) (sym pushed) (push_keeps c.args.elements.now.nodes.items node)
