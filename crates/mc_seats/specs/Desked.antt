-- Each replica of a world has its desks at hand.
use Rattle.std.specs.Prelude.{◌≡◌, ⊤, ℕ, ◌-◌, ◌^◌, min, nat_eq, Bool, ◌&&◌, List, [], ◌∷◌, length, map, drop, Option}
use Rattle.std.specs.Prelude.{None, Some}
use Rattle.std.specs.List.{list_all, sum_by}
use Rattle.std.specs.Option.{option_map}
use Rattle.mc_keep.specs.Plan.{DeskSchedule, Schedule, first_plan}

-- how many desks each replica has: one for each worker that may fetch from it at a time
abbrev pub desks_each : ℕ
desks_each = 16

abbrev pub is_full_list : {A : Type 0} → List A → Bool
is_full_list desks = nat_eq (length desks) desks_each

-- so many replicas have a list of all their desks each
abbrev pub is_desked : {D : Type 0} → ℕ → List (List D) → Bool
is_desked count desks = nat_eq count (length desks) && list_all is_full_list desks

-- how often the desks of each replica have failed together, at most the last value of 64 bits
abbrev pub desk_sums : {D : Type 0} → (D → ℕ) → List (List D) → List ℕ
desk_sums count desks = map (λ list. min (sum_by count list) (2 ^ 64 - 1)) desks

-- the reads through a desk that are planned to fail
abbrev pub reads_of : Option DeskSchedule → Option (List ℕ)
reads_of schedule = option_map (λ (schedule : DeskSchedule). schedule.reads) schedule

-- each desk has the next of these plans, and nothing is planned where none is left
abbrev pub HavePlans : {D : Type 0} → (D → Option DeskSchedule) → List (List ℕ) → List D → Type 0
HavePlans desk_schedule plans [] = ⊤
HavePlans desk_schedule plans (desk ∷ desks) =
    (reads_of (desk_schedule desk) ≡ Some (first_plan plans)) × HavePlans desk_schedule (drop 1 plans) desks

abbrev pub HavePlansOf : {D : Type 0} → (D → Option DeskSchedule) → Option Schedule → List D → Type 0
HavePlansOf desk_schedule None desks = ⊤
HavePlansOf desk_schedule (Some schedule) desks = HavePlans desk_schedule schedule.desks desks

-- These are desks of a keeper that had this schedule: in order they have the plans that it had for its desks, where
-- those are known.
pub record AreDesksOf {D : Type 0} (desk_schedule : D → Option DeskSchedule) (schedule : Option Schedule)
    (desks : List D) : Type 0 where
  pub planned : HavePlansOf desk_schedule schedule desks
