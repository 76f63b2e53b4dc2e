use Rattle.std.proofs.Common.{ap, sym, List}
use Rattle.mc_base.specs.declared.cid.Cid.{Cid}
use Rattle.mc_model.specs.Front.{is_among}
use Rattle.mc_graph.proofs.CidFacts.{nothing_in}
use Rattle.mc_graph.proofs.cids.has_cid.Goals as goal

pub returns-then-is_empty : goal.returns-then-is_empty
returns-then-is_empty c = sym (ap (λ (z : List Cid). is_among z c.args.cid.now) (nothing_in c.args.cids.now.keys (c.is_empty.ensures.0 c.if-is_empty.true)))
