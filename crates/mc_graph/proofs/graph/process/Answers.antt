use Rattle.std.proofs.Common.{◌≡◌, ◌∙◌, ℕ, Some, None, true, false, cond, ap, sym, subst}
use Rattle.std.specs.Prelude.{is_some, slice_get}
use Rattle.std.specs.HashMap.{get, keys}
use Rattle.mc_base.specs.declared.cid.Cid.{Cid}
use Rattle.mc_base.proofs.Booleans.{none_there}
use Rattle.mc_model.specs.Front.{same_cid}
use Rattle.mc_graph.specs.Graph.{order_of, position_in, IsOrdered}
use Rattle.mc_graph.proofs.GraphFacts.{is_stored-graph}
use Rattle.mc_graph.proofs.OrderFacts.{key_at, noted_row, order_set, order_with, ordered_set, stored_key}
use Rattle.mc_graph.proofs.graph.process.Goals as goal

pub unreachable-requires : goal.unreachable-requires
unreachable-requires c =
    let none : None ≡ get same_cid c.args.graph.now.blocks c.args.cid.now = c.in_default.ensures.value in
    let f : true ≡ false = sym c.requires.stored ∙ is_stored-graph c.args.cid.now c.args.graph.now.blocks ∙ ap is_some (sym none) in
    cc

pub returns-then-is_some-clause-order : goal.returns-then-is_some-clause-order
returns-then-is_some-clause-order c =
    sym (order_with c.args.graph.now.blocks c.args.graph.now.order.items c.args.cid.now true c.args.graph.now.ordered
    (noted_row c.args.graph.now.blocks c.args.cid.now c.in-Some.row.now c.in-Some.ensures.value ∙ sym (c.is_some.ensures ∙ ap is_some c.place.ensures) ∙ c.if-is_some.true))

pub invariant_of-graph : goal.invariant_of-graph
invariant_of-graph c =
    let blocks = c.args.graph.now.blocks in
    let order = c.args.graph.now.order.items in
    let cid = c.args.cid.now in
    let is : cid ≡ c.in-Some.field-0-1.now = stored_key blocks cid c.in-Some.place c.in-Some.field-0-1.now c.in-Some.row.now c.in-Some.ensures.index c.in-Some.ensures.entry in
    let at : slice_get (keys blocks) c.in-Some.place ≡ Some cid = key_at blocks c.in-Some.place c.in-Some.field-0-1.now c.in-Some.row.now c.in-Some.ensures.entry ∙ ap (λ (z : Cid). Some z) (sym is) in
    let free : is_some (position_in blocks cid) ≡ false = noted_row blocks cid c.in-Some.row.now c.in-Some.ensures.value ∙ sym (c.is_some.ensures ∙ ap is_some c.place.ensures) ∙ c.if-is_some.false in
    record {
      ordered = subst (λ z. IsOrdered c.set_position.new.blocks z) (sym c.push_reserved.ensures.items)
          (ordered_set blocks c.set_position.new.blocks cid c.in-Some.place order c.set_position.ensures.keys at c.args.graph.now.ordered (none_there (position_in blocks cid) free)
          (λ other. c.set_position.ensures.positions c.in-Some.field-0-1.now c.in-Some.row.now c.in-Some.ensures.entry other
          ∙ ap (λ (z : Cid). cond (same_cid other z) (Some c.count_of-position.result) (position_in blocks other)) (sym is)
          ∙ ap (λ (z : ℕ). cond (same_cid other cid) (Some z) (position_in blocks other)) c.count_of-position.ensures.count));
    }

pub returns-clause-order : goal.returns-clause-order
returns-clause-order c =
    let blocks = c.args.graph.now.blocks in
    let order = c.args.graph.now.order.items in
    let cid = c.args.cid.now in
    let is : cid ≡ c.in-Some.field-0-1.now = stored_key blocks cid c.in-Some.place c.in-Some.field-0-1.now c.in-Some.row.now c.in-Some.ensures.index c.in-Some.ensures.entry in
    let at : slice_get (keys blocks) c.in-Some.place ≡ Some cid = key_at blocks c.in-Some.place c.in-Some.field-0-1.now c.in-Some.row.now c.in-Some.ensures.entry ∙ ap (λ (z : Cid). Some z) (sym is) in
    let free : is_some (position_in blocks cid) ≡ false = noted_row blocks cid c.in-Some.row.now c.in-Some.ensures.value ∙ sym (c.is_some.ensures ∙ ap is_some c.place.ensures) ∙ c.if-is_some.false in
    ap (order_of c.set_position.new.blocks) c.push_reserved.ensures.items
    ∙ order_set blocks c.set_position.new.blocks cid c.in-Some.place order c.set_position.ensures.keys at
    ∙ sym (order_with blocks order cid false c.args.graph.now.ordered free)
