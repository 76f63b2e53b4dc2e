-- What a run of a generated script leaves behind, status by status.
use Rattle.std.specs.Prelude.{◌≡◌, ◌⊎◌, ℕ, List, [], length, map, Option}
use Rattle.std.specs.Io.KnownBytes.{Appends, Keeps}
use Rattle.mc_base.specs.Told.{AppendsPart}
use Rattle.mc_gen.specs.Summary.{summary_text}
use Rattle.mc_app.specs.Outcome.{EndsShort}
use Rattle.mc_app.specs.Progress.{Progress, MeetsBadLine, bad_line_text}
use Rattle.mc_runs.specs.Runs.{Answer, text_of_answer}
use Rattle.mc_seats.specs.Worlds.{WorldState}
use Rattle.mc_app.specs.declared.status.Status.{Status}
use Rattle.mc_app.specs.declared.status.Status.TheVariants.{Done, Usage, BadLine, ReadFault, WriteFault, KeeperFault}
use Rattle.mc_app.specs.declared.status.Status.TheVariants.{Memory}

-- the texts of some answers
abbrev pub replies_of : List (Option Answer) → List (List ℕ)
replies_of answers = map text_of_answer answers

-- a summary of this text, some first bytes of it, or nothing
abbrev pub EndsSummary : Status → List ℕ → Option (List ℕ) → Option (List ℕ) → Type 0
EndsSummary Done text old new = Appends old new text
EndsSummary WriteFault text old new = AppendsPart old new text
EndsSummary Memory text old new = Keeps old new
EndsSummary Usage text old new = ⊥
EndsSummary (BadLine line) text old new = ⊥
EndsSummary ReadFault text old new = ⊥
EndsSummary KeeperFault text old new = ⊥

module _ (script : List ℕ) (First : WorldState → Type 0) (May : List (List ℕ) → List (Option Answer) → Type 0)
    (Ends : WorldState → Type 0) where
  -- every line was answered
  pub record IsAllAnswered : Type 0 where
    pub progress : Progress script First May
    pub last : Ends progress.world
    pub all : progress.ahead ≡ []

  -- the lines before this one were answered, and this one is bad
  pub record IsStoppedBad (number : ℕ) : Type 0 where
    pub progress : Progress script First May
    pub last : Ends progress.world
    pub meets : MeetsBadLine script First May progress number

  -- some first lines were answered, and then memory was wanting
  pub record IsStoppedShort : Type 0 where
    pub progress : Progress script First May
    pub last : EndsShort Ends (length progress.taken) progress.ahead progress.world

  -- what is written at the end, by itself: the summary of all replies, or the line on a bad line
  abbrev pub IsSaid : ℕ → List ℕ → Type 0
  IsSaid count text =
      ((all : IsAllAnswered) × (text ≡ summary_text count (replies_of all.progress.answers)))
      ⊎ ((number : ℕ) × IsStoppedBad number × (text ≡ bad_line_text number))

  -- some first bytes of it are written
  pub record IsPartSaid (count : ℕ) (old new : Option (List ℕ)) : Type 0 where
    pub text : List ℕ
    pub said : IsSaid count text
    pub written : AppendsPart old new text

  -- what was written under each status, for a script with so many drawn lines
  abbrev pub Generates : Status → ℕ → Option (List ℕ) → Option (List ℕ) → Type 0
  Generates Done count old new =
      (all : IsAllAnswered) × Appends old new (summary_text count (replies_of all.progress.answers))
  Generates (BadLine number) count old new = IsStoppedBad number × Appends old new (bad_line_text number)
  Generates WriteFault count old new = IsPartSaid count old new
  Generates KeeperFault count old new = Keeps old new
  Generates Memory count old new = IsStoppedShort × Keeps old new
  Generates Usage count old new = ⊥
  Generates ReadFault count old new = ⊥
