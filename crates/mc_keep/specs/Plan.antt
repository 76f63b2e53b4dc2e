-- Planned faults: which calls of a keeper and of its desks fail, where that is known.
use Rattle.std.specs.Prelude.{◌≡◌, ⊤, ℕ, ◌<◌, ◌≤◌, Bool, true, false, ◌||◌, List, [], ◌∷◌, drop, Option}
use Rattle.std.specs.Prelude.{Some, None, Result, Ok, Err, IfOk, if◌then◌else◌}
use Rattle.std.specs.Result.{is_ok}
pub use Rattle.mc_base.specs.Plan.{next_number, is_planned}
use Rattle.mc_model.specs.Kept.{Kept}
use Rattle.mc_keep.specs.declared.error.KeepError.{KeepError}
use Rattle.mc_keep.specs.declared.error.KeepError.TheVariants.{Failed, Memory}

-- the numbers of the calls that fail, counted from 1, and how many calls there were; a commit fails before its effect
-- or after it; the plans of the desks that are still to be made, in order
pub record Schedule : Type 0 where
  pub reads : List ℕ
  pub before : List ℕ
  pub after : List ℕ
  pub reads_made : ℕ
  pub commits_made : ℕ
  pub desks : List (List ℕ)

-- the numbers of a desk's reads that fail, counted from 1, and how many there were
pub record DeskSchedule : Type 0 where
  pub reads : List ℕ
  pub reads_made : ℕ

-- whether a call failed
abbrev pub is_fault : {T : Type 0} → Result T KeepError → Bool
is_fault (Ok value) = false
is_fault (Err Failed) = true
is_fault (Err Memory) = false

-- where a schedule is known, the call counts as one read, and has failed exactly where that is planned
abbrev pub ReadsAsPlanned : Option Schedule → Option Schedule → Bool → Type 0
ReadsAsPlanned None new failed = ⊤
ReadsAsPlanned (Some old) new failed =
    (new ≡ Some (record old { reads_made = next_number old.reads_made }))
    × (failed ≡ is_planned old.reads (next_number old.reads_made))

-- of the calls after so many, up to this number, the last one was planned to fail where it did, and no other one was
pub record AreMade (is_planned_at : ℕ → Bool) (before now : ℕ) (failed : Bool) : Type 0 where
  pub last_is : failed ≡ true → is_planned_at now ≡ true
  pub others : (number : ℕ) → before < number → number ≤ now → (failed ≡ true → number < now)
      → is_planned_at number ≡ false

-- reads were made, of which the last one alone may have failed; nothing else of the schedule is another
pub record ReadsGoOn (old : Schedule) (new : Option Schedule) (failed : Bool) : Type 0 where
  pub made : ℕ
  pub counted : new ≡ Some (record old { reads_made = made })
  pub planned : AreMade (is_planned old.reads) old.reads_made made failed

-- the same where a schedule is known
abbrev pub ReadsGo : Option Schedule → Option Schedule → Bool → Type 0
ReadsGo None new failed = ⊤
ReadsGo (Some old) new failed = ReadsGoOn old new failed

-- whether a commit of this number is planned to fail, before its effect or after it
abbrev pub is_planned_commit : Schedule → ℕ → Bool
is_planned_commit schedule number = is_planned schedule.before number || is_planned schedule.after number

-- reads and commits were made, of which only the last call may have failed
pub record CallsGoOn (old : Schedule) (new : Option Schedule) (failed : Bool) : Type 0 where
  pub reads_made : ℕ
  pub commits_made : ℕ
  pub read_failed : Bool
  pub commit_failed : Bool
  pub counted : new ≡ Some (record old { reads_made = reads_made; commits_made = commits_made })
  pub one_failed : failed ≡ (read_failed || commit_failed)
  pub reads_planned : AreMade (is_planned old.reads) old.reads_made reads_made read_failed
  pub commits_planned : AreMade (is_planned_commit old) old.commits_made commits_made commit_failed

abbrev pub CallsGo : Option Schedule → Option Schedule → Bool → Type 0
CallsGo None new failed = ⊤
CallsGo (Some old) new failed = CallsGoOn old new failed

-- the plan of the next desk: nothing where none is left
abbrev pub first_plan : List (List ℕ) → List ℕ
first_plan [] = []
first_plan (plan ∷ plans) = plan

-- what is planned once a desk was asked for: it counts as one read, and a desk that is made takes the first plan
abbrev pub with_desk : Bool → Schedule → Schedule
with_desk made old =
    record old { reads_made = next_number old.reads_made; desks = if made then drop 1 old.desks else old.desks }

-- a schedule without its plans of desks: what a call that makes a desk leaves, apart from these
abbrev pub without_desks : Option Schedule → Option Schedule
without_desks None = None
without_desks (Some schedule) = Some (record schedule { desks = [] })

-- the same of a call that makes a desk, which has the first of the plans left
abbrev pub DeskAsPlanned : {D : Type 0} → (D → Option DeskSchedule) → Option Schedule → Option Schedule →
    Result D KeepError → Type 0
DeskAsPlanned desk_schedule None new result = ⊤
DeskAsPlanned desk_schedule (Some old) new result =
    (new ≡ Some (with_desk (is_ok result) old))
    × (is_fault result ≡ is_planned old.reads (next_number old.reads_made))
    × IfOk result (λ desk. desk_schedule desk ≡ Some (record { reads = first_plan old.desks; reads_made = 0 }))

-- the same of a read through a desk
abbrev pub DeskReadsAsPlanned : Option DeskSchedule → Option DeskSchedule → Bool → Type 0
DeskReadsAsPlanned None new failed = ⊤
DeskReadsAsPlanned (Some old) new failed =
    (new ≡ Some (record old { reads_made = next_number old.reads_made }))
    × (failed ≡ is_planned old.reads (next_number old.reads_made))

-- the same of a commit: one that fails before its effect leaves what was told, and one that fails after it what the
-- changes make of that
abbrev pub CommitsAsPlanned : Option Schedule → Option Schedule → Bool → Option Kept → Option Kept → Option Kept →
    Type 0
CommitsAsPlanned None new failed told told_after whole = ⊤
CommitsAsPlanned (Some old) new failed told told_after whole =
    (new ≡ Some (record old { commits_made = next_number old.commits_made }))
    × (failed
    ≡ (is_planned old.before (next_number old.commits_made) || is_planned old.after (next_number old.commits_made)))
    × (is_planned old.before (next_number old.commits_made) ≡ true → told_after ≡ told)
    × (is_planned old.before (next_number old.commits_made) ≡ false →
    is_planned old.after (next_number old.commits_made) ≡ true → told_after ≡ whole)
