-- What is answered for a storm.
use Rattle.std.specs.Prelude.{Result, Ok, Err}
use Rattle.mc_storm.specs.declared.outcome.StormError.{StormError}
use Rattle.mc_storm.specs.declared.outcome.StormError.TheVariants.{KeeperFault, Stopped, Memory}
use Rattle.mc_storm.specs.declared.outcome.Stormed.{Stormed}
use Rattle.mc_script.specs.declared.reply.Reply.{Reply}
use Rattle.mc_script.specs.declared.reply.Reply.TheVariants as reply
use Rattle.mc_seats.specs.declared.error.ActError.{ActError}
use Rattle.mc_seats.specs.declared.error.ActError.TheVariants as act

-- where all writers have made all their writes
abbrev pub stormed_reply : Stormed → Reply
stormed_reply stormed = reply.Stormed stormed.made stormed.same

-- whatever it came to
abbrev pub storm_answer : Result Stormed StormError → Result Reply ActError
storm_answer (Ok stormed) = Ok (stormed_reply stormed)
storm_answer (Err KeeperFault) = Ok reply.FaultKeeper
storm_answer (Err Stopped) = Ok reply.Stopped
storm_answer (Err Memory) = Err act.Memory
