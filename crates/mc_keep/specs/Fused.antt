-- What a keeper with a fuse tells, counts and plans, by the keeper inside.
use Rattle.std.specs.Prelude.{◌≡◌, ℕ, ◌+◌, ◌-◌, ◌^◌, min, max, Bool, false, Option, None, Some, is_some, if◌then◌else◌}
use Rattle.mc_model.specs.Kept.{Kept}
use Rattle.mc_keep.specs.declared.fuse.Fuse.{Fuse}
use Rattle.mc_keep.specs.declared.fused.Fused.{Fused}
use Rattle.mc_keep.specs.Calls.{Members, Commits}
use Rattle.mc_keep.specs.Causes.{fires}
use Rattle.mc_keep.specs.Plan.{Schedule, CommitsAsPlanned}

-- the count of the keeper inside and that of the fuse together, which stops at the end of its type
abbrev pub count_with : ℕ → ℕ → ℕ
count_with inside fired = max inside (min (inside + fired) (2 ^ 64 - 1))

-- how often the fuse has fired, after one more commit
abbrev pub fired_after : Option Fuse → ℕ → ℕ
fired_after fuse fired = if is_some (fires fuse) then min (fired + 1) (2 ^ 64 - 1) else fired

-- of a keeper inside that has a fuse of its own neither its quiet nor its plan says which commits fail
abbrev pub quiet_by : Option Fuse → Bool → Bool
quiet_by None quiet = quiet
quiet_by (Some fuse) quiet = false

abbrev pub schedule_by : Option Fuse → Option Schedule → Option Schedule
schedule_by None schedule = schedule
schedule_by (Some fuse) schedule = None

-- the same as functions of a keeper with a fuse
module _ {K : Type 0} where
  abbrev pub faults_in : (K → ℕ) → Fused K → ℕ
  faults_in faults fused = count_with (faults fused.keeper) fused.fired

  abbrev pub quiet_in : (K → Option Fuse) → (K → Bool) → Fused K → Bool
  quiet_in fuse quiet fused = quiet_by (fuse fused.keeper) (quiet fused.keeper)

  abbrev pub schedule_in : (K → Option Fuse) → (K → Option Schedule) → Fused K → Option Schedule
  schedule_in fuse schedule fused = schedule_by (fuse fused.keeper) (schedule fused.keeper)

-- the keeper inside has made one commit of so many rows, whether it failed or not, as its own fuse and plan say
pub record CommitsOnce {K D : Type 0} (k : Members K D) (rows : ℕ) (whole : Option Kept) (failed : Bool) (old new : K)
    : Type 0 where
  pub commits : Commits k rows failed old new
  pub planned : fires (k.fuse old) ≡ None →
      CommitsAsPlanned (k.schedule old) (k.schedule new) failed (k.told old) (k.told new) whole
