-- A line, its answer, and what was written of it.
use Rattle.std.specs.Prelude.{◌≡◌, ◌⊎◌, ℕ, true, List, Option, Some}
use Rattle.std.specs.Io.KnownBytes.{Appends}
use Rattle.mc_base.specs.Told.{AppendsPart}
use Rattle.mc_script.specs.ReplyText.{reply_text}
use Rattle.mc_script.specs.declared.command.Command.{Command}
use Rattle.mc_seats.specs.Keepers.{IsPaid, Tally}
use Rattle.mc_runs.specs.Runs.{Answer, IsWithin, LineStep, arms_of, fault_of, own_of, owns_none}
use Rattle.mc_runs.specs.Runs.{text_of_answer}
use Rattle.mc_seats.specs.Step.{LeavesStep}
use Rattle.mc_seats.specs.Worlds.{WorldState}

-- From one tally to the next, over an answer to what was read of a line: its fault is paid, and so is an entry that names
-- a keeper or a desk that failed by itself; what is calm stays so, and then the entry names none.
pub record Tallies (read : Option (Option Command)) (answer : Option Answer) (old new : Tally) : Type 0 where
  pub paid : IsPaid (fault_of answer) (arms_of read) old.count old.armed new.count new.armed
  pub own_paid : IsWithin old.count new.count (own_of answer)
  pub calm : old.calm ≡ true → new.calm ≡ true
  pub owned : old.calm ≡ true → owns_none answer ≡ true

-- this was read of a line, it was done and answered
pub record IsAnswered (old : WorldState) (before : Tally) (read : Option (Option Command)) (new : WorldState)
    (after : Tally) (answer : Option Answer) : Type 0 where
  pub step : LineStep old read new answer
  pub tallies : Tallies read answer before after

-- and the answer was written
pub record Executes (old : WorldState) (before : Tally) (read : Option (Option Command)) (new : WorldState)
    (after : Tally) (out out_now : Option (List ℕ)) : Type 0 where
  pub answer : Option Answer
  pub answered : IsAnswered old before read new after answer
  pub written : Appends out out_now (text_of_answer answer)

-- or some first bytes of its reply
pub record ExecutesPart (old : WorldState) (before : Tally) (read : Option (Option Command)) (new : WorldState)
    (after : Tally) (out out_now : Option (List ℕ)) : Type 0 where
  pub answer : Answer
  pub answered : IsAnswered old before read new after (Some answer)
  pub written : AppendsPart out out_now (reply_text answer.reply)

-- memory was wanting for a command: this was left of it, or it was done, and its answer is not written
pub record CutsShort (old : WorldState) (before : Tally) (command : Command) (new : WorldState) (after : Tally)
    : Type 0 where
  pub left : LeavesStep old command new
      ⊎ ((answer : Answer) × IsAnswered old before (Some (Some command)) new after (Some answer))
  pub paid : IsPaid 0 (arms_of (Some (Some command))) before.count before.armed after.count after.armed
  pub calm : before.calm ≡ true → after.calm ≡ true

-- memory was wanting for a line of which this was read: nothing changed, or its command was cut short
abbrev pub LineShort : WorldState → Tally → Option (Option Command) → WorldState → Tally → Type 0
LineShort old before read new after = ((new ≡ old) × (after ≡ before)) ⊎ ((command : Command)
    × (read ≡ Some (Some command)) × CutsShort old before command new after)
