use Rattle.std.proofs.Common.{◌∙◌, Some, ap, sym}
use Rattle.mc_base.specs.declared.cid.Cid.{Cid}
use Rattle.mc_model.proofs.Counts.{cid_is}
use Rattle.mc_graph.proofs.OrderFacts.{key_at}
use Rattle.mc_graph.proofs.graph.is_at_place.Goals as goal

pub returns-in-Some : goal.returns-in-Some
returns-in-Some c = λ same.
    key_at c.args.graph.now.blocks c.args.place c.in-Some.other.now c.in-Some.field-0-1.now (sym c.in-Some.ensures.entry)
    ∙ ap (λ (z : Cid). Some z) (cid_is c.in-Some.other.now c.args.cid.now (sym c.eq.ensures ∙ same))
