-- The answers of a work and of a repair over peers.
use Rattle.std.specs.Prelude.{Bool, cond, Result, Ok, Err}
use Rattle.mc_drain.specs.declared.working.WorkError.{WorkError}
use Rattle.mc_drain.specs.declared.working.WorkError.TheVariants.{KeeperFault, PeerFault, Stopped, Memory}

-- why there is no answer, by whether a fault more shows in the count of a fetch
abbrev pub error_by : Bool → WorkError → WorkError
error_by shows KeeperFault = KeeperFault
error_by shows PeerFault = cond shows PeerFault Memory
error_by shows Stopped = Stopped
error_by shows Memory = Memory

abbrev pub answered : {T : Type 0} → Bool → Result T WorkError → Result T WorkError
answered shows (Ok value) = Ok value
answered shows (Err error) = Err (error_by shows error)
