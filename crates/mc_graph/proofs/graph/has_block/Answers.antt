use Rattle.std.proofs.Common.{◌∙◌, sym}
use Rattle.mc_graph.proofs.GraphFacts.{is_stored-graph}
use Rattle.mc_graph.proofs.graph.has_block.Goals as goal

pub returns : goal.returns
returns c = c.contains_key.ensures ∙ sym (is_stored-graph c.args.cid.now c.args.graph.now.blocks)
