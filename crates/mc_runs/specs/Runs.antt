-- What the lines of a script do, one after another.
use Rattle.std.specs.Prelude.{◌≡◌, ◌≤◌, ℕ, ◌+◌, ◌-◌, ◌^◌, min, Bool, true, false, ◌&&◌, cond, List, [], ◌∷◌, Option}
use Rattle.std.specs.Prelude.{None, Some}
use Rattle.std.specs.List.{flat_map, list_all, sum_by}
use Rattle.mc_script.specs.Line.{line_of}
use Rattle.mc_script.specs.ReplyText.{reply_text}
use Rattle.mc_script.specs.declared.command.Command.{Command}
use Rattle.mc_script.specs.declared.reply.Reply.{Reply}
use Rattle.mc_seats.specs.declared.entry.LineEntry.{LineEntry}
use Rattle.mc_seats.specs.Asks.{arms}
use Rattle.mc_seats.specs.Step.{Step, is_fault}
use Rattle.mc_seats.specs.Worlds.{WorldState}

-- what a line is answered, and its entry of the record
pub record Answer : Type 0 where
  pub reply : Reply
  pub entry : LineEntry

-- a line that asks for this may lead from one world to another, and be answered so: a bad one may not, and one without
-- a reply changes nothing
abbrev pub LineStep : WorldState → Option (Option Command) → WorldState → Option Answer → Type 0
LineStep old None new answer = ⊥
LineStep old (Some None) new answer = (new ≡ old) × (answer ≡ None)
LineStep old (Some (Some command)) new None = ⊥
LineStep old (Some (Some command)) new (Some answer) = Step old command answer.entry answer.reply new

-- the lines may be answered so, each by its reply or none, one step after another
abbrev pub Runs : WorldState → List (List ℕ) → List (Option Answer) → WorldState → Type 0
Runs old [] [] new = new ≡ old
Runs old (line ∷ lines) (answer ∷ answers) new =
    (mid : WorldState) × LineStep old (line_of line) mid answer × Runs mid lines answers new
Runs old [] (answer ∷ answers) new = ⊥
Runs old (line ∷ lines) [] new = ⊥

abbrev pub text_of_answer : Option Answer → List ℕ
text_of_answer None = []
text_of_answer (Some answer) = reply_text answer.reply

-- what is written for the answers to some lines
abbrev pub text_of : List (Option Answer) → List ℕ
text_of answers = flat_map text_of_answer answers

-- how many answers are `fault keeper` or `fault peer`
abbrev pub fault_of : Option Answer → ℕ
fault_of None = 0
fault_of (Some answer) = cond (is_fault answer.reply) 1 0

abbrev pub faults_in : List (Option Answer) → ℕ
faults_in answers = sum_by fault_of answers

-- how many lines arm a fuse
abbrev pub arms_of : Option (Option Command) → ℕ
arms_of None = 0
arms_of (Some None) = 0
arms_of (Some (Some command)) = arms command

abbrev pub arms_in : List (List ℕ) → ℕ
arms_in lines = sum_by (λ line. arms_of (line_of line)) lines

-- whether the entry of an answer names no keeper and no desk that failed by itself
abbrev pub names_none : List ℕ → Bool
names_none [] = true
names_none (number ∷ numbers) = false

abbrev pub owns_none : Option Answer → Bool
owns_none None = true
owns_none (Some answer) = names_none answer.entry.own && names_none answer.entry.desks

abbrev pub own_free : List (Option Answer) → Bool
own_free answers = list_all owns_none answers

-- how many answers have an entry that names one
abbrev pub own_of : Option Answer → ℕ
own_of answer = cond (owns_none answer) 0 1

abbrev pub owns_in : List (Option Answer) → ℕ
owns_in answers = sum_by own_of answers

-- a count that was this rose by this many to what it is now, or it stands at its last value
abbrev pub IsWithin : ℕ → ℕ → ℕ → Type 0
IsWithin before now many = min (before + many) (2 ^ 64 - 1) ≤ now

-- What may be answered to some lines while a count rises from one number to another: no more faults than it rose by and
-- fuses were armed; no more answers whose entry names a keeper or a desk that failed by itself than it rose by; and where
-- all is calm none.
pub record MayAnswer (calm : Type 0) (before now : ℕ) (lines : List (List ℕ)) (answers : List (Option Answer))
    : Type 0 where
  pub paid : IsWithin before (now + arms_in lines) (faults_in answers)
  pub own_paid : IsWithin before now (owns_in answers)
  pub own_none : calm → own_free answers ≡ true
