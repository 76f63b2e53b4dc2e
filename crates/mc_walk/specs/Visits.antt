-- What the events of a replica visit between the beginning of a walk and its end.
use Rattle.std.specs.Prelude.{ℕ, ◌≡◌, ◌≤◌, Bool, true, false, List, [], ◌∷◌, ◌++◌, length, take, drop, Option, Some}
use Rattle.std.specs.Prelude.{None}
use Rattle.std.specs.List.{list_all, range_with_len}
use Rattle.mc_base.specs.declared.cid.Cid.{Cid}
use Rattle.mc_model.specs.State.{Durable, Walk, Running, State}
use Rattle.mc_model.specs.Events.{Event, WalkBegin, WalkVisit, WalkEnd, Stop, happens, after, MayCome, MayComeAll}

-- a replica that runs
abbrev pub running : Durable → Running → State
running durable run = record { durable = durable; run = Some run }

-- the position that a visit of this walk comes to
abbrev pub position_in : Option Walk → List ℕ
position_in None = []
position_in (Some walk) = walk.1 ∷ []

-- the position that the event visits, or none where it is no visit
abbrev pub position_by : Option Running → Event → List ℕ
position_by (Some run) WalkVisit = position_in run.walk
position_by run event = []

-- the positions that these events visit, in turn
abbrev pub positions : State → List Event → List ℕ
positions state [] = []
positions state (event ∷ events) = position_by state.run event ++ positions (happens state event) events

-- the block that stands at the position that a visit of this walk comes to
abbrev pub block_in : Durable → Option Walk → List Cid
block_in durable None = []
block_in durable (Some walk) = take 1 (drop walk.1 durable.order)

-- the block that the event visits, or none where it is no visit
abbrev pub block_at : Durable → Option Running → Event → List Cid
block_at durable (Some run) WalkVisit = block_in durable run.walk
block_at durable run event = []

-- the blocks that these events visit, in turn
abbrev pub blocks : State → List Event → List Cid
blocks state [] = []
blocks state (event ∷ events) = block_at state.durable state.run event ++ blocks (happens state event) events

-- the event neither ends a walk nor stops the replica
abbrev pub keeps_walking : Event → Bool
keeps_walking WalkEnd = false
keeps_walking Stop = false
keeps_walking event = true

-- a walk begins, and these events come while it goes on, whichever others are among them
pub record IsWalking (durable : Durable) (run : Running) (events : List Event) : Type 0 where
  pub may : MayComeAll (running durable run) (WalkBegin ∷ events)
  pub goes : list_all keeps_walking events ≡ true

-- a walk begins, these events come while it goes on, and it may end
pub record IsWalked (durable : Durable) (run : Running) (events : List Event) : Type 0 where
  pub walking : IsWalking durable run events
  pub ends : MayCome (after (running durable run) (WalkBegin ∷ events)).durable
      (after (running durable run) (WalkBegin ∷ events)).run WalkEnd

-- the walk of what runs
abbrev pub walk_in : Option Running → Option Walk
walk_in None = None
walk_in (Some run) = run.walk

-- the first of the positions of the old blocks are visited, in order, each once, and there stood these blocks
pub record IsSoFar (durable : Durable) (run : Running) (events : List Event) : Type 0 where
  pub visited : ℕ
  pub within : visited ≤ length durable.order
  pub walk : walk_in (after (running durable run) (WalkBegin ∷ events)).run ≡ Some (length durable.order, visited)
  pub each : positions (running durable run) (WalkBegin ∷ events) ≡ range_with_len 0 visited
  pub there : blocks (running durable run) (WalkBegin ∷ events) ≡ take visited durable.order
