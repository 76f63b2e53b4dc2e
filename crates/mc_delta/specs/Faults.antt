-- What the faults of this crate say.
use Rattle.mc_model.specs.DeltaText as model
use Rattle.mc_wire.specs.Named as wire
use Rattle.mc_wire.specs.declared.fault.WireFaultAt.{WireFaultAt}
use Rattle.mc_delta.specs.declared.fault.DeltaFaultKind.{DeltaFaultKind}
use Rattle.mc_delta.specs.declared.fault.DeltaFaultKind.TheVariants.{Wire, TextFault}
use Rattle.mc_delta.specs.declared.fault.DeltaFault.{DeltaFault}

abbrev pub kind_named : DeltaFaultKind → model.DeltaFaultKind
kind_named (Wire fault) = model.Wire (wire.fault_named fault)
kind_named TextFault = model.TextFault

abbrev pub fault_named : DeltaFault → model.DeltaFault
fault_named fault = record { kind = kind_named fault.kind; at = fault.at }

-- a fault of the wire format is one of a delta
abbrev pub of_wire : WireFaultAt → DeltaFault
of_wire fault = record { kind = Wire fault.kind; at = fault.at }
