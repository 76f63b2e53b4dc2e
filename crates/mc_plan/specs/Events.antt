-- A replica over a keeper with a fuse, and what lists of events make of it.
use Rattle.std.specs.Prelude.{◌≡◌, ⊤, ◌⊎◌, Bool, true, false, List, [], ◌∷◌, ◌++◌, fold, Option, Some, None, Result, Ok}
use Rattle.std.specs.Prelude.{Err}
use Rattle.std.specs.Option.{option_map}
use Rattle.mc_model.specs.Events.{Event, MayCome, happens, is_commit}
use Rattle.mc_model.specs.Kept.{Kept}
use Rattle.mc_model.specs.State.{Durable, Running, State, durable_of}
use Rattle.mc_keep.specs.Causes.{burnt, fires, CommitFails}
use Rattle.mc_keep.specs.declared.fuse.Fuse.{Fuse}

-- a replica's state, and the fuse of its keeper
pub record ReplicaState : Type 0 where
  pub state : State
  pub fuse : Option Fuse

-- that of a replica over a keeper that tells this
abbrev pub state_of : Option Kept → Option Fuse → Option Running → Option ReplicaState
state_of told fuse run =
    option_map (λ (kept : Kept). record { state = record { durable = durable_of kept; run = run }; fuse = fuse }) told

-- whether the event is a commit
abbrev pub commits : ReplicaState → Event → Bool
commits s event = is_commit s.state.durable event

-- a commit burns the fuse
abbrev pub burnt_by : Bool → Option Fuse → Option Fuse
burnt_by true fuse = burnt fuse
burnt_by false fuse = fuse

-- whether an event fails by the fuse, and then whether after its effect
abbrev pub fires_by : Bool → Option Fuse → Option Bool
fires_by true fuse = fires fuse
fires_by false fuse = None

-- the replica after an event, and after all in order
abbrev pub goes_on : ReplicaState → Event → ReplicaState
goes_on s event = record { state = happens s.state event; fuse = burnt_by (commits s event) s.fuse }

abbrev pub all_happen : ReplicaState → List Event → ReplicaState
all_happen s events = fold goes_on s events

-- each event may come where it comes, and no commit among them reaches the fuse
abbrev pub MayHappen : ReplicaState → List Event → Type 0
MayHappen s [] = ⊤
MayHappen s (event ∷ events) =
    MayCome s.state.durable s.state.run event × (fires_by (commits s event) s.fuse ≡ None)
    × MayHappen (goes_on s event) events

-- all the events have happened
pub record Goes (events : List Event) (s new : ReplicaState) : Type 0 where
  pub may : MayHappen s events
  pub ends : new ≡ all_happen s events

-- so they have where the replica runs, and else nothing has
abbrev pub HappensIn : Option Running → (Running → List Event) → ReplicaState → ReplicaState → Type 0
HappensIn None events s new = new ≡ s
HappensIn (Some run) events s new = Goes (events run) s new

-- the replica that has stopped, and keeps what is durable
abbrev pub stopped_with : Durable → Option Fuse → ReplicaState
stopped_with durable fuse = record { state = record { durable = durable; run = None }; fuse = fuse }

abbrev pub stopped : ReplicaState → ReplicaState
stopped s = stopped_with s.state.durable s.fuse

-- The event is a commit, and it fails: by itself it has happened wholly or not at all; by the fuse it has not, or it
-- has. Then the replica stops.
pub record CommitBreaks (event : Event) (rose : Type 0) (s new : ReplicaState) : Type 0 where
  pub commit : commits s event ≡ true
  pub may : MayCome s.state.durable s.state.run event
  pub left : Durable
  pub fails : CommitFails (fires s.fuse) rose s.state.durable (happens s.state event).durable left
  pub ends : new ≡ stopped_with left (burnt s.fuse)

-- how a list of events is cut short before these: by a fault of the keeper between two commits, or by the next commit
abbrev pub IsCutShort : List Event → Type 0 → ReplicaState → ReplicaState → Type 0
IsCutShort [] rose s new = rose × (new ≡ stopped s)
IsCutShort (event ∷ events) rose s new = (rose × (new ≡ stopped s)) ⊎ CommitBreaks event rose s new

-- some first events have happened, the next commit wholly or not at all, and then the replica has stopped
pub record Breaks (events : List Event) (rose : Type 0) (s new : ReplicaState) : Type 0 where
  pub so_far : List Event
  pub rest : List Event
  pub split : events ≡ so_far ++ rest
  pub may : MayHappen s so_far
  pub fate : IsCutShort rest rose (all_happen s so_far) new

-- a part of a call that takes no memory: all events have happened, or they are cut short
abbrev pub Part : {T E : Type 0} → List Event → Type 0 → Result T E → ReplicaState → ReplicaState → Type 0
Part events rose (Ok value) s new = Goes events s new
Part events rose (Err error) s new = Breaks events rose s new
