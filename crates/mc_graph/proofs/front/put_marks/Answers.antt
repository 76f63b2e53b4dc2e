use Rattle.std.proofs.Common.{◌∙◌}
use Rattle.mc_graph.specs.Graph.{order_of}
use Rattle.mc_graph.proofs.FreshFacts.{insert_fresh}
use Rattle.mc_graph.proofs.front.put_marks.Goals as goal

pub returns-clause-order : goal.returns-clause-order
returns-clause-order c = c.process_all.ensures.order ∙ insert_fresh (order_of c.args.graph.now.blocks c.args.graph.now.order.items) c.args.marks.now c.requires.fresh
