-- How far a script was answered.
use Rattle.std.specs.Prelude.{◌≡◌, ◌≤◌, ◌⊎◌, ⊤, ℕ, ◌+◌, ◌-◌, false, List, [], ◌∷◌, ◌++◌, length, Option, None, Some}
use Rattle.std.specs.Prelude.{All, codes}
use Rattle.std.specs.Fmt.{decimal}
use Rattle.mc_script.specs.Line.{line_of}
use Rattle.mc_script.specs.declared.command.Command.{Command}
use Rattle.mc_seats.specs.Asks.{is_there}
use Rattle.mc_app.specs.Lines.{lines_of, line_max, script_max, IsTooLong}
use Rattle.mc_app.specs.Taking.{TakesLine}
use Rattle.mc_runs.specs.Runs.{Answer, Runs}
use Rattle.mc_seats.specs.Step.{LeavesStep}
use Rattle.mc_seats.specs.Worlds.{WorldState}

-- the first lines of a script, which keep the limits, with their answers and the world after them, from a first world;
-- `May` says what may be answered
pub record Progress (script : List ℕ) (First : WorldState → Type 0)
    (May : List (List ℕ) → List (Option Answer) → Type 0) : Type 0 where
  pub first : WorldState
  pub begins : First first
  pub taken : List ℕ
  pub ahead : List ℕ
  pub lines : List (List ℕ)
  pub answers : List (Option Answer)
  pub world : WorldState
  pub bytes : script ≡ taken ++ ahead
  pub split : lines_of script ≡ lines ++ lines_of ahead
  pub runs : Runs first lines answers world
  pub faults : May lines answers
  pub within : All (λ line. length line ≤ line_max) lines
  pub in_script : length taken ≤ script_max

-- what was read of a line is no command, or names a replica, a message or a file that isn't there
abbrev pub IsBadCommand : WorldState → Option (Option Command) → Type 0
IsBadCommand w None = ⊤
IsBadCommand w (Some None) = ⊥
IsBadCommand w (Some (Some command)) = is_there w command ≡ false

-- the next line is no command in this world
pub record IsNoCommand (w : WorldState) (ahead : List ℕ) : Type 0 where
  pub line : List ℕ
  pub more : List (List ℕ)
  pub lines : lines_of ahead ≡ line ∷ more
  pub bad : IsBadCommand w (line_of line)

-- the next line breaks a limit, where the script has room for this many bytes, or is no command
abbrev pub IsBadLine : WorldState → ℕ → List ℕ → Type 0
IsBadLine w room ahead = IsTooLong room ahead ⊎ IsNoCommand w ahead

-- the line behind those that were answered has this number, counted from 1, and is bad
pub record MeetsBadLine (script : List ℕ) (First : WorldState → Type 0)
    (May : List (List ℕ) → List (Option Answer) → Type 0) (progress : Progress script First May) (number : ℕ)
    : Type 0 where
  pub counted : number ≡ length progress.lines + 1
  pub bad : IsBadLine progress.world (script_max - length progress.taken) progress.ahead

abbrev pub bad_line_text : ℕ → List ℕ
bad_line_text number = codes "bad line " ++ decimal number ++ 10 ∷ []

-- The next line, where this many bytes of the script were taken before it, was read, and a want of memory in the call
-- of its command left this.
pub record LeavesNext (given : ℕ) (ahead : List ℕ) (world left : WorldState) : Type 0 where
  pub line : List ℕ
  pub rest : List ℕ
  pub given_after : ℕ
  pub takes : TakesLine line given given_after ahead rest
  pub in_script : given_after ≤ script_max
  pub command : Command
  pub asks : line_of line ≡ Some (Some command)
  pub leaves : LeavesStep world command left
