-- Why a replica was not opened.
use Rattle.std.specs.Prelude.{Bool, true, false}
use Rattle.mc_core.specs.declared.replica.OpenCause.{OpenCause}
use Rattle.mc_core.specs.declared.replica.OpenCause.TheVariants.{KeeperFault, Memory}

-- whether the keeper failed
abbrev pub is_fault_cause : OpenCause → Bool
is_fault_cause KeeperFault = true
is_fault_cause Memory = false
