-- How far the replies to a generated script were summed up.
use Rattle.std.specs.Prelude.{◌⊎◌, ◌∷◌, ◌++◌, ℕ, [], List, Option}
use Rattle.mc_gen.specs.Summary.{Sums}
use Rattle.mc_gen.specs.declared.summary.Summary.{Summary}
use Rattle.mc_script.specs.declared.command.Command.{Command}
use Rattle.mc_app.specs.Executes.{IsAnswered, LineShort}
use Rattle.mc_app.specs.Generating.{IsAllAnswered, IsStoppedBad, IsStoppedShort, replies_of}
use Rattle.mc_runs.specs.Runs.{Answer, text_of_answer}
use Rattle.mc_seats.specs.Worlds.{WorldState}
use Rattle.mc_app.specs.declared.summing.Summed.{Summed}
use Rattle.mc_app.specs.declared.summing.Summed.TheVariants.{Whole, Bad, Short}
use Rattle.mc_seats.specs.Keepers.{Tally}

-- a line of which this was read was done, and its reply was taken into the summary
pub record SumsLine (old : WorldState) (before : Tally) (read : Option (Option Command)) (new : WorldState)
    (after : Tally) (summary summary_now : Summary) : Type 0 where
  pub answer : Option Answer
  pub answered : IsAnswered old before read new after answer
  pub sums : (count : ℕ) (replies : List (List ℕ)) → Sums count summary replies
      → Sums count summary_now (replies ++ text_of_answer answer ∷ [])

-- or memory was wanting: for the line, or for taking in the reply of one that was done
abbrev pub SumsShort : WorldState → Tally → Option (Option Command) → WorldState → Tally → Type 0
SumsShort old before read new after = LineShort old before read new after
    ⊎ ((answer : Option Answer) × IsAnswered old before read new after answer)

module _ (script : List ℕ) (First : WorldState → Type 0) (May : List (List ℕ) → List (Option Answer) → Type 0)
    (Ends : WorldState → Type 0) where
  -- how a script was summed up: whole, up to a bad line, or until memory was wanting
  abbrev pub SumsUp : Summed → ℕ → Summary → Type 0
  SumsUp Whole count summary =
      (all : IsAllAnswered script First May Ends) × Sums count summary (replies_of all.progress.answers)
  SumsUp (Bad line) count summary = IsStoppedBad script First May Ends line
  SumsUp Short count summary = IsStoppedShort script First May Ends
