use Rattle.std.proofs.Common.{map, Some}
use Rattle.mc_base.specs.Node.{node_bytes}
use Rattle.mc_dagpb.specs.Written.{cid_bytes}
use Rattle.mc_dagpb.proofs.NodeText.{node_is_read}
use Rattle.mc_dagpb.proofs.WrittenNode.{node_is_written, node_bytes_len}
use Rattle.mc_dagpb.proofs.laws.written_nodes_are_read.Goals as goal

pub returns-clause-node : goal.returns-clause-node
returns-clause-node c = node_is_written

pub returns-clause-read : goal.returns-clause-read
returns-clause-read c = λ links payload digests fits. node_is_read (node_bytes links payload) (map cid_bytes links) (Some payload) (node_is_written links payload digests fits)

pub returns-clause-len : goal.returns-clause-len
returns-clause-len c = node_bytes_len
