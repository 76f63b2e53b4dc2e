use Rattle.mc_dagpb.proofs.NodeText.{node_is_read, node_told}
use Rattle.mc_dagpb.proofs.laws.nodes_are_read.Goals as goal

pub returns-clause-read : goal.returns-clause-read
returns-clause-read c = node_is_read

pub returns-clause-found : goal.returns-clause-found
returns-clause-found c = node_told
