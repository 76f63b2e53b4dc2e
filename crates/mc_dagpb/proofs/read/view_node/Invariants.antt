use Rattle.std.proofs.Common.{◌-◌, length}
use Rattle.mc_dagpb.specs.Reads.{view_text}
use Rattle.mc_dagpb.proofs.NodeFacts.{IsReading}
use Rattle.mc_dagpb.proofs.read.view_node.Given as goal

abbrev pub invariant-loop-view : goal.invariant-loop-view
invariant-loop-view l = IsReading l.bytes l.at l.order (view_text l.view)

abbrev pub decreases-loop-view : goal.decreases-loop-view
decreases-loop-view l = length l.bytes - l.at
