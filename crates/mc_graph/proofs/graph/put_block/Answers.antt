use Rattle.std.proofs.Common.{◌≡◌, ◌∙◌, ◌++◌, ◌∷◌, [], None, ap, map, sym}
use Rattle.std.specs.HashMap.{get}
use Rattle.indexmap.proofs.CallerLemmas.{insert_entry-new}
use Rattle.mc_base.proofs.Booleans.{none_there}
use Rattle.mc_model.specs.Front.{same_cid}
use Rattle.mc_graph.specs.declared.graph.BlockRow.{BlockRow}
use Rattle.mc_graph.specs.Graph.{stored_of}
use Rattle.mc_graph.proofs.GraphFacts.{is_stored-graph, map-push}
use Rattle.mc_graph.proofs.OnOk.{on_ok}
use Rattle.mc_graph.proofs.OrderFacts.{order_put, ordered_put}
use Rattle.mc_graph.proofs.graph.put_block.Goals as goal

pub invariant_of-graph : goal.invariant_of-graph
invariant_of-graph c =
    let row : BlockRow = record { bytes = c.args.stored.bytes; position = c.none.result } in
    let blocks = c.args.graph.now.blocks in
    let none : get same_cid blocks c.args.stored.cid ≡ None = none_there (get same_cid blocks c.args.stored.cid) (sym (is_stored-graph c.args.stored.cid blocks) ∙ c.requires.new) in
    let entries : c.insert-none.new.self.entries ≡ blocks.entries ++ (c.args.stored.cid, row) ∷ [] =
    on_ok _ c.insert-none.result (c.insert-none.ensures.succeeds c.requires.room) c.insert-none.ensures.entries ∙ insert_entry-new same_cid blocks c.args.stored.cid row none in
    let updates = on_ok _ c.insert-none.result (c.insert-none.ensures.succeeds c.requires.room) c.insert-none.ensures.updates in
    record { ordered = ordered_put blocks c.insert-none.new.self c.args.stored.cid row c.args.graph.now.order.items entries c.args.graph.now.ordered c.none.ensures none updates.0 }

pub returns-clause-graph : goal.returns-clause-graph
returns-clause-graph c =
    let row : BlockRow = record { bytes = c.args.stored.bytes; position = c.none.result } in
    let blocks = c.args.graph.now.blocks in
    let none : get same_cid blocks c.args.stored.cid ≡ None = none_there (get same_cid blocks c.args.stored.cid) (sym (is_stored-graph c.args.stored.cid blocks) ∙ c.requires.new) in
    let entries : c.insert-none.new.self.entries ≡ blocks.entries ++ (c.args.stored.cid, row) ∷ [] =
    on_ok _ c.insert-none.result (c.insert-none.ensures.succeeds c.requires.room) c.insert-none.ensures.entries ∙ insert_entry-new same_cid blocks c.args.stored.cid row none in
    ap (map stored_of) entries ∙ map-push stored_of blocks.entries (c.args.stored.cid, row)

pub returns-clause-order : goal.returns-clause-order
returns-clause-order c =
    let row : BlockRow = record { bytes = c.args.stored.bytes; position = c.none.result } in
    let blocks = c.args.graph.now.blocks in
    let none : get same_cid blocks c.args.stored.cid ≡ None = none_there (get same_cid blocks c.args.stored.cid) (sym (is_stored-graph c.args.stored.cid blocks) ∙ c.requires.new) in
    let entries : c.insert-none.new.self.entries ≡ blocks.entries ++ (c.args.stored.cid, row) ∷ [] =
    on_ok _ c.insert-none.result (c.insert-none.ensures.succeeds c.requires.room) c.insert-none.ensures.entries ∙ insert_entry-new same_cid blocks c.args.stored.cid row none in
    order_put blocks c.insert-none.new.self c.args.stored.cid row c.args.graph.now.order.items entries c.args.graph.now.ordered
