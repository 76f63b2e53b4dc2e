-- What is written for a generated script.
use Rattle.std.proofs.Common.{◌≡◌, ◌∙◌, ℕ, List, Option, None, Some, refl, sym, subst, inl, inr, length}
use Rattle.std.specs.Prelude.{⊤}
use Rattle.std.specs.Io.KnownBytes.{Appends}
use Rattle.mc_core.specs.declared.replica.OpenCause.{OpenCause}
use Rattle.mc_core.specs.declared.replica.OpenCause.TheVariants as causes
use Rattle.mc_gen.specs.Script.{script_text}
use Rattle.mc_gen.specs.Summary.{summary_text}
use Rattle.mc_app.specs.declared.command_line.Request.{Request}
use Rattle.mc_app.specs.declared.command_line.Request.TheVariants.{Gen as GenFrom, Run as RunOver}
use Rattle.mc_app.specs.Generating.{EndsSummary, Generates, IsAllAnswered, IsSaid, IsStoppedBad, IsStoppedShort, replies_of}
use Rattle.mc_app.specs.Progress.{bad_line_text}
use Rattle.mc_app.specs.Refusal.{EndsBad}
use Rattle.mc_runs.specs.Runs.{Answer}
use Rattle.mc_seats.specs.Worlds.{WorldState}
use Rattle.mc_app.specs.declared.status.Status.{Status}
use Rattle.mc_app.specs.declared.status.Status.TheVariants.{Done, Usage, BadLine, ReadFault, WriteFault, KeeperFault, Memory}
use Rattle.mc_app.proofs.RunFacts.{keeps_same, progress_map, short_map}
use Rattle.mc_app.specs.Outcome.{unopened_status}

module _ (script : List ℕ) (First First2 : WorldState → Type 0)
    (May May2 : List (List ℕ) → List (Option Answer) → Type 0) (Ends Ends2 : WorldState → Type 0)
    (b : (w : WorldState) → First w → First2 w)
    (f : (lines : List (List ℕ)) (answers : List (Option Answer)) → May lines answers → May2 lines answers)
    (g : (w : WorldState) → Ends w → Ends2 w) where
  abbrev all_map : IsAllAnswered script First May Ends → IsAllAnswered script First2 May2 Ends2
  all_map all = record { progress = progress_map script First First2 May May2 b f all.progress; last = g all.progress.world all.last; all = all.all }

  abbrev bad_map : (number : ℕ) → IsStoppedBad script First May Ends number → IsStoppedBad script First2 May2 Ends2 number
  bad_map number bad = record { progress = progress_map script First First2 May May2 b f bad.progress; last = g bad.progress.world bad.last; meets = record { counted = bad.meets.counted; bad = bad.meets.bad } }

  abbrev stopped_map : IsStoppedShort script First May Ends → IsStoppedShort script First2 May2 Ends2
  stopped_map short = record { progress = progress_map script First First2 May May2 b f short.progress; last = short_map Ends Ends2 (length short.progress.taken) short.progress.ahead short.progress.world g short.last }

  said_map : (count : ℕ) (text : List ℕ) → IsSaid script First May Ends count text → IsSaid script First2 May2 Ends2 count text
  said_map count text (inl (all, is)) = inl (all_map all, is)
  said_map count text (inr (number, bad, is)) = inr (number, bad_map number bad, is)

  -- from which world, what may be answered and what holds of the last one, under other words
  pub generates_map : (status : Status) (count : ℕ) (old new : Option (List ℕ))
      → Generates script First May Ends status count old new → Generates script First2 May2 Ends2 status count old new
  generates_map Done count old new (all, written) = (all_map all, written)
  generates_map (BadLine number) count old new (bad, written) = (bad_map number bad, written)
  generates_map WriteFault count old new part = record { text = part.text; said = said_map count part.text part.said; written = part.written }
  generates_map KeeperFault count old new kept = kept
  generates_map Memory count old new (short, kept) = (stopped_map short, kept)
  generates_map Usage count old new o = absurd o
  generates_map ReadFault count old new o = absurd o

module _ (script : List ℕ) (First : WorldState → Type 0) (May : List (List ℕ) → List (Option Answer) → Type 0)
    (Ends : WorldState → Type 0) (count : ℕ) (old new : Option (List ℕ)) where
  -- the summary is written, or a part of it
  pub said_whole : (status : Status) (all : IsAllAnswered script First May Ends)
      → EndsSummary status (summary_text count (replies_of all.progress.answers)) old new
      → Generates script First May Ends status count old new
  said_whole Done all written = (all, written)
  said_whole WriteFault all part = record { text = summary_text count (replies_of all.progress.answers); said = inl (all, refl); written = part }
  said_whole Memory all kept = (record { progress = all.progress; last = inl all.last }, kept)
  said_whole Usage all o = absurd o
  said_whole (BadLine line) all o = absurd o
  said_whole ReadFault all o = absurd o
  said_whole KeeperFault all o = absurd o

  -- or the line on a bad line
  pub said_bad : (status : Status) (line : ℕ) → IsStoppedBad script First May Ends line → EndsBad status line old new
      → Generates script First May Ends status count old new
  said_bad (BadLine at) line bad refuses = (
    subst (IsStoppedBad script First May Ends) (sym refuses.0) bad,
    subst (λ (n : ℕ). Appends old new (bad_line_text n)) (sym refuses.0) refuses.1,
  )
  said_bad WriteFault line bad part = record { text = bad_line_text line; said = inr (line, bad, refl); written = part }
  said_bad Memory line bad kept = (record { progress = bad.progress; last = inl bad.last }, kept)
  said_bad Done line bad o = absurd o
  said_bad Usage line bad o = absurd o
  said_bad ReadFault line bad o = absurd o
  said_bad KeeperFault line bad o = absurd o

-- nothing is written where the replicas were not opened
pub unopened_generates : (script : List ℕ) (First : WorldState → Type 0)
    (May : List (List ℕ) → List (Option Answer) → Type 0) (Ends : WorldState → Type 0) (count : ℕ)
    (old : Option (List ℕ)) (cause : OpenCause) (status : Status) → status ≡ unopened_status cause
    → (status ≡ Memory → IsStoppedShort script First May Ends) → Generates script First May Ends status count old old
unopened_generates script First May Ends count old cause status is short = by_cause cause is
  where
    by_cause : (cause : OpenCause) → status ≡ unopened_status cause → Generates script First May Ends status count old old
    by_cause causes.KeeperFault is = subst (λ (s : Status). Generates script First May Ends s count old old) (sym is) (keeps_same old)
    by_cause causes.Memory is = subst (λ (s : Status). Generates script First May Ends s count old old) (sym is) (short is, keeps_same old)

-- the words ask for one script alone
pub generates_asked : (First : WorldState → Type 0) (May : List (List ℕ) → List (Option Answer) → Type 0)
    (Ends : WorldState → Type 0) (status : Status) (old new : Option (List ℕ)) (asked : Option Request)
    (start count start_asked count_asked : ℕ) → asked ≡ Some (GenFrom start count) → asked ≡ Some (GenFrom start_asked count_asked)
    → Generates (script_text start count) First May Ends status count old new
    → Generates (script_text start_asked count_asked) First May Ends status count_asked old new
generates_asked First May Ends status old new asked start count start_asked count_asked is wanted generates =
    subst As (sym is ∙ wanted) generates
  where
    As : Option Request → Type 0
    As None = ⊤
    As (Some (RunOver plan replicas)) = ⊤
    As (Some (GenFrom start count)) = Generates (script_text start count) First May Ends status count old new
