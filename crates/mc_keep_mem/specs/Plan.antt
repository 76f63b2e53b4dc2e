-- Plans by which nothing fails.
use Rattle.std.specs.Prelude.{ℕ, map, Bool, true, false, ◌&&◌, List, [], ◌∷◌}
use Rattle.std.specs.List.{list_all}
use Rattle.mc_keep.specs.Plan.{Schedule, DeskSchedule}
use Rattle.mc_keepers.specs.Making.{MakeSchedule}
use Rattle.mc_keep_mem.specs.declared.plan.FaultPlan.{FaultPlan}
use Rattle.mc_keep_mem.specs.declared.plan.MemDesk.{MemDesk}

abbrev pub is_nothing : {A : Type 0} → List A → Bool
is_nothing [] = true
is_nothing (x ∷ xs) = false

-- whether no call of a keeper and of its desks is planned to fail
abbrev pub plans_nothing : FaultPlan → Bool
plans_nothing plan =
    is_nothing plan.commits_before
    && (is_nothing plan.commits_after && (is_nothing plan.reads && list_all is_nothing plan.desks))

-- the plan before the first call
abbrev pub planned : FaultPlan → Schedule
planned plan =
    record {
      reads = plan.reads;
      before = plan.commits_before;
      after = plan.commits_after;
      reads_made = 0;
      commits_made = 0;
      desks = plan.desks;
    }

abbrev pub nothing_planned : FaultPlan
nothing_planned = record { commits_before = []; commits_after = []; reads = []; desks = [] }

-- which further reads through a desk fail
abbrev pub desk_schedule_of : MemDesk → DeskSchedule
desk_schedule_of desk = record { reads = desk.failing; reads_made = desk.calls }

-- which further makes fail, and what is planned for the keepers
abbrev pub makes_of : List ℕ → ℕ → List FaultPlan → MakeSchedule
makes_of failing made plans = record { makes = failing; makes_made = made; keepers = map planned plans }
