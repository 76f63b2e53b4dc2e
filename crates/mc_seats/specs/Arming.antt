-- The commands that arm a fuse.
use Rattle.std.specs.Prelude.{ℕ, Bool, true, false}
use Rattle.mc_script.specs.declared.command.Command.{Command}
use Rattle.mc_script.specs.declared.command.Command.TheVariants.{StopAt, StopAfter}

abbrev pub arming : ℕ → ℕ → Bool → Command
arming r commit false = StopAt r commit
arming r commit true = StopAfter r commit

abbrev pub is_arming : Command → Bool
is_arming (StopAt r commit) = true
is_arming (StopAfter r commit) = true
is_arming command = false
