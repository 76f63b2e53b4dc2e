use Rattle.std.proofs.Common.{◌∙◌, ap}
use Rattle.std.specs.Prelude.{is_some}
use Rattle.mc_model.specs.Front.{same_cid}
use Rattle.mc_graph.specs.Graph.{order_of}
use Rattle.mc_graph.proofs.OrderFacts.{is_there}
use Rattle.mc_graph.proofs.graph.is_processed.Goals as goal

pub returns : goal.returns
returns c = c.is_some.ensures ∙ ap is_some c.position_of.ensures ∙ is_there (same_cid c.args.cid.now) (order_of c.args.graph.now.blocks c.args.graph.now.order.items)
