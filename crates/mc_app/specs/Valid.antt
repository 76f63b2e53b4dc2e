-- Scripts without a bad line, and what a run of one comes to where nothing fails.
use Rattle.std.specs.Prelude.{◌≡◌, ◌≤◌, ◌⊎◌, ⊤, ℕ, List, [], ◌∷◌, length, Option, None, Some, true}
use Rattle.std.specs.List.{AllByRecursion}
use Rattle.mc_base.specs.Causes.{Rose}
use Rattle.mc_script.specs.Line.{line_of}
use Rattle.mc_script.specs.declared.command.Command.{Command}
use Rattle.mc_app.specs.Lines.{lines_of, line_max, script_max}
use Rattle.mc_app.specs.Progress.{IsBadCommand}
use Rattle.mc_app.specs.declared.status.Status.{Status}
use Rattle.mc_app.specs.declared.status.Status.TheVariants.{Done, Memory}
use Rattle.mc_runs.specs.Runs.{Answer, LineStep}
use Rattle.mc_seats.specs.Asks.{is_among}
use Rattle.mc_seats.specs.Worlds.{WorldState, no_bag}

-- from this world on, whatever is answered to the lines before it, each line is a command of which all that it names is
-- there, or asks for nothing
abbrev pub NoneIsBad : WorldState → List (List ℕ) → Type 0
NoneIsBad w [] = ⊤
NoneIsBad w (line ∷ lines) = (IsBadCommand w (line_of line) → ⊥)
    × ((answer : Option Answer) (next : WorldState) → LineStep w (line_of line) next answer → NoneIsBad next lines)

-- a script is valid from some first worlds: neither it nor a line of it is too long, and none of its lines is bad
pub record IsValid (First : WorldState → Type 0) (script : List ℕ) : Type 0 where
  pub in_script : length script ≤ script_max
  pub within : AllByRecursion (λ line. length line ≤ line_max) (lines_of script)
  pub none_bad : (first : WorldState) → First first → NoneIsBad first (lines_of script)

-- what was read of a line asks for nothing, or is a command on some of so many replicas that hears no message and
-- imports no file
abbrev pub IsPlain : ℕ → Option (Option Command) → Type 0
IsPlain replicas None = ⊥
IsPlain replicas (Some None) = ⊤
IsPlain replicas (Some (Some command)) = is_among replicas no_bag command ≡ true

-- neither a script nor a line of it is too long, and all its lines are of this kind
pub record IsPlainScript (replicas : ℕ) (script : List ℕ) : Type 0 where
  pub in_script : length script ≤ script_max
  pub within : AllByRecursion (λ line. length line ≤ line_max) (lines_of script)
  pub plain : AllByRecursion (λ line. IsPlain replicas (line_of line)) (lines_of script)

-- a count has not risen
abbrev pub IsStill : ℕ → ℕ → Type 0
IsStill before now = Rose before now → ⊥

-- all lines were answered, or memory was wanting
abbrev pub EndsWell : Status → Type 0
EndsWell status = (status ≡ Done) ⊎ (status ≡ Memory)
