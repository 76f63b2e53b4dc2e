-- The lines of a text that are commands.
use Rattle.std.specs.Prelude.{◌≡◌, List, ℕ, Some}
use Rattle.std.specs.List.{AllByRecursion}
use Rattle.mc_script.specs.Line.{line_of}
use Rattle.mc_script.specs.declared.command.Command.{Command}
use Rattle.mc_app.specs.Lines.{lines_of}

-- the line is read as a command
abbrev pub IsCommandLine : List ℕ → Type 0
IsCommandLine line = (command : Command) × (line_of line ≡ Some (Some command))

-- each line of a script is
abbrev pub AreCommandLines : List ℕ → Type 0
AreCommandLines script = AllByRecursion IsCommandLine (lines_of script)
