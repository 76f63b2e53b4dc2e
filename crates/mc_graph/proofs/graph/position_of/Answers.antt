use Rattle.std.proofs.Common.{◌∙◌, ap}
use Rattle.std.specs.Option.{option_and_then}
use Rattle.mc_graph.specs.declared.graph.BlockRow.{BlockRow}
use Rattle.mc_graph.proofs.graph.position_of.Goals as goal

pub returns-in-Some : goal.returns-in-Some
returns-in-Some c = c.place.ensures ∙ ap (option_and_then (λ (row : BlockRow). row.position)) c.in-Some.ensures.value ∙ c.args.graph.now.ordered.positions c.args.cid.now

pub returns-in-None : goal.returns-in-None
returns-in-None c = ap (option_and_then (λ (row : BlockRow). row.position)) c.in-None.ensures.value ∙ c.args.graph.now.ordered.positions c.args.cid.now
