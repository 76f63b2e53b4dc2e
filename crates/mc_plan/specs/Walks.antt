-- What the calls of the repair walk do, and what is settled at its end.
use Rattle.std.specs.Prelude.{◌≡◌, ◌==◌, ℕ, Bool, true, false, List, [], ◌∷◌, filter, length, not, ◌&&◌, Option, Some}
use Rattle.std.specs.Prelude.{None, if◌then◌else◌}
use Rattle.std.specs.Option.{option_map}
use Rattle.mc_base.specs.declared.cid.Cid.{Cid}
use Rattle.mc_model.specs.Events.{Event, WalkBegin, WalkVisit, WalkEnd, links_at}
use Rattle.mc_model.specs.Front.{gaps}
use Rattle.mc_model.specs.Graph.{has}
use Rattle.mc_model.specs.Kept.{Kept, processed}
use Rattle.mc_model.specs.State.{Running, Walk, durable_of}
use Rattle.mc_model.specs.Wanted.{Queue}
use Rattle.mc_walk.specs.Walks.{begun, next_of, after_visit}
use Rattle.mc_keep.specs.Changes.{no_changes}
use Rattle.mc_keep.specs.declared.changes.Changes.{Changes}
use Rattle.mc_plan.specs.declared.counting.Numbers.{Numbers}
use Rattle.mc_plan.specs.declared.walks.Settled.{Settled}
use Rattle.mc_plan.specs.declared.walks.Settled.TheVariants.{Clean, Open}
use Rattle.mc_plan.specs.declared.walks.WalkStep.{WalkStep}
use Rattle.mc_plan.specs.declared.walks.WalkStep.TheVariants.{Idle, Begun, Visited, Ended}
use Rattle.mc_plan.specs.Events.{ReplicaState}
use Rattle.mc_plan.specs.Uptakes.{wants}

-- a step of a walk that goes on: it visits its next position, or ends where all are visited
abbrev pub step_to : Option ℕ → WalkStep
step_to None = Ended
step_to (Some position) = Visited position

-- the step that is due: none where every gap counts as wanted
abbrev pub step_due : Bool → Option Walk → WalkStep
step_due true walk = Idle
step_due false None = Begun
step_due false (Some walk) = step_to (next_of walk)

-- its events
abbrev pub step_events : WalkStep → List Event
step_events Idle = []
step_events Begun = WalkBegin ∷ []
step_events (Visited position) = WalkVisit ∷ []
step_events Ended = WalkEnd ∷ []

-- the step that is due, and its events
abbrev pub RunStep : Option Running → List Event → WalkStep → Type 0
RunStep None events step = ⊥
RunStep (Some run) events step = (step ≡ step_due run.whole run.walk) × (events ≡ step_events step)

abbrev pub WalkEvents : ReplicaState → List Event → WalkStep → Type 0
WalkEvents s = RunStep s.state.run

-- what becomes of the walk, over every keeper: one that begins has the keeper's number of processed blocks as its
-- length
abbrev pub WalkGoes : WalkStep → Option Walk → Option Walk → Type 0
WalkGoes Idle old new = new ≡ old
WalkGoes Begun old new = (length : ℕ) × (new ≡ Some (begun length))
WalkGoes (Visited position) old new = new ≡ option_map after_visit old
WalkGoes Ended old new = new ≡ None

-- what is wanted, over every keeper: after a visit some links more
abbrev pub StepWants : WalkStep → Queue → Queue → Type 0
StepWants Idle q left = left ≡ q
StepWants Begun q left = left ≡ q
StepWants (Visited position) q left = (links : List Cid) × (left ≡ wants q links)
StepWants Ended q left = left ≡ q

-- whether every gap counts as wanted after the step
abbrev pub is_whole_after : WalkStep → Bool
is_whole_after Idle = true
is_whole_after Begun = false
is_whole_after (Visited position) = false
is_whole_after Ended = true

-- the links of the block at a position that are not processed
abbrev pub open_links_at : Kept → ℕ → List Cid
open_links_at kept position = filter (λ c. not (has c kept.order)) (links_at (durable_of kept) position)

-- how many gaps there are
abbrev pub gap_count : Kept → ℕ
gap_count kept = length (gaps (processed kept))

-- what is settled where so many gaps are left
abbrev pub settled_with : ℕ → Settled
settled_with left = if left == 0 then Clean else Open left

-- clean is settled
abbrev pub IsClean : Kept → Type 0
IsClean kept = settled_with (gap_count kept) ≡ Clean

-- whether the mark is set and there is no gap
abbrev pub clears : Numbers → Bool
clears numbers = numbers.gaps == 0 && numbers.mark

-- the changes that clear the mark
abbrev pub clearing : Changes
clearing = record no_changes { mark = Some false }

-- whether a step commits: an end does, where it clears the mark
abbrev pub commits_at : WalkStep → Numbers → Bool
commits_at Idle numbers = false
commits_at Begun numbers = false
commits_at (Visited position) numbers = false
commits_at Ended numbers = clears numbers
