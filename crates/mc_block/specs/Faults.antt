-- What the damages and errors of this crate say.
use Rattle.mc_model.specs.Offer as model
use Rattle.mc_dagpb.specs.Named as node
use Rattle.mc_dagpb.specs.declared.fault.NodeError.{NodeError}
use Rattle.mc_dagpb.specs.declared.fault.NodeError.TheVariants.{Fault as NodeFaulty, Memory as NodeMemory}
use Rattle.mc_delta.specs.Faults as delta
use Rattle.mc_delta.specs.declared.fault.DeltaError.{DeltaError}
use Rattle.mc_delta.specs.declared.fault.DeltaError.TheVariants.{Fault as DeltaFaulty, Memory as DeltaMemory}
use Rattle.mc_block.specs.declared.fault.Damage.{Damage}
use Rattle.mc_block.specs.declared.fault.Damage.TheVariants.{TooLarge, WrongDigest, NotDagPb, BadLink, BadDelta}
use Rattle.mc_block.specs.declared.fault.BlockError.{BlockError}
use Rattle.mc_block.specs.declared.fault.BlockError.TheVariants.{Damaged, Memory}

abbrev pub damage_of : Damage → model.Damage
damage_of (TooLarge len) = model.TooLarge len
damage_of (WrongDigest found) = model.WrongDigest found.0
damage_of (NotDagPb fault) = model.NotDagPb (node.fault_named fault)
damage_of (BadLink index) = model.BadLink index
damage_of (BadDelta fault) = model.BadDelta (delta.fault_named fault)

-- a fault of the node, or of the delta in it, is a damage of the block
abbrev pub of_node : NodeError → BlockError
of_node (NodeFaulty fault) = Damaged (NotDagPb fault)
of_node NodeMemory = Memory

abbrev pub of_delta : DeltaError → BlockError
of_delta (DeltaFaulty fault) = Damaged (BadDelta fault)
of_delta DeltaMemory = Memory
