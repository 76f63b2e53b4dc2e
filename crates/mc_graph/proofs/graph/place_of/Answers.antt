use Rattle.std.proofs.Common.{◌≡◌, ◌∙◌, Some, None, true, false, ap, sym}
use Rattle.std.specs.HashMap.{get}
use Rattle.std.specs.Prelude.{is_some}
use Rattle.mc_base.specs.declared.cid.Cid.{Cid}
use Rattle.mc_model.specs.Front.{same_cid}
use Rattle.mc_graph.proofs.GraphFacts.{is_stored-graph}
use Rattle.mc_graph.proofs.OrderFacts.{key_at, stored_key}
use Rattle.mc_graph.proofs.graph.place_of.Goals as goal

pub unreachable-requires : goal.unreachable-requires
unreachable-requires c =
    let none : None ≡ get same_cid c.args.graph.now.blocks c.args.cid.now = c.in_default-get_full.ensures.value in
    let f : true ≡ false = sym c.requires.stored ∙ is_stored-graph c.args.cid.now c.args.graph.now.blocks ∙ ap is_some (sym none) in
    cc

pub returns : goal.returns
returns c =
    let blocks = c.args.graph.now.blocks in
    key_at blocks c.in-Some-get_full.place c.in-Some-get_full.field-0-1.now c.in-Some-get_full.field-0-2.now c.in-Some-get_full.ensures.entry
    ∙ ap (λ (z : Cid). Some z) (sym (stored_key blocks c.args.cid.now c.in-Some-get_full.place c.in-Some-get_full.field-0-1.now c.in-Some-get_full.field-0-2.now c.in-Some-get_full.ensures.index c.in-Some-get_full.ensures.entry))
