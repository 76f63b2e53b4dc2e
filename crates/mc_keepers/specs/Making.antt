-- Which calls of who makes keepers fail, where that is known.
use Rattle.std.specs.Prelude.{◌≡◌, ⊤, ℕ, List, [], slice_get, Option, Some, None, unwrap_or, Result, IfOk}
use Rattle.mc_keep.specs.Plan.{Schedule, is_fault, is_planned, next_number}
use Rattle.mc_keep.specs.declared.error.KeepError.{KeepError}

-- the numbers of the makes that fail, counted from 1, how many there were, and what is planned for each keeper, by its
-- index
pub record MakeSchedule : Type 0 where
  pub makes : List ℕ
  pub makes_made : ℕ
  pub keepers : List Schedule

-- nothing fails
abbrev pub no_schedule : Schedule
no_schedule = record { reads = []; before = []; after = []; reads_made = 0; commits_made = 0; desks = [] }

-- what is planned for the keeper with this index: nothing where there is no plan
abbrev pub keeper_plan : List Schedule → ℕ → Schedule
keeper_plan plans index = unwrap_or (slice_get plans index) no_schedule

-- the same of a call that makes the keeper with this index
abbrev pub MakesAsPlanned : {K : Type 0} → (K → Option Schedule) → Option MakeSchedule → Option MakeSchedule → ℕ →
    Result K KeepError → Type 0
MakesAsPlanned schedule None new index result = ⊤
MakesAsPlanned schedule (Some old) new index result =
    (new ≡ Some (record old { makes_made = next_number old.makes_made }))
    × (is_fault result ≡ is_planned old.makes (next_number old.makes_made))
    × IfOk result (λ keeper. schedule keeper ≡ Some (keeper_plan old.keepers index))
