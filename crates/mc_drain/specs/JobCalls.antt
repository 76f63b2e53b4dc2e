-- What the calls on one job, which may be one of many, do to a replica whose keeper tells.
use Rattle.std.specs.Prelude.{List, [], ◌∷◌, cond, Result, Ok, Err}
use Rattle.mc_base.specs.declared.cid.Cid.{Cid}
use Rattle.mc_model.specs.Events.{Event, GiveBack}
use Rattle.mc_model.specs.Graph.{has}
use Rattle.mc_model.specs.State.{Running}
use Rattle.mc_core.specs.Calls.{Does, Faults}
use Rattle.mc_core.specs.Events.{HappensIn, ReplicaState}
use Rattle.mc_core.specs.Reads.{read_refusal}
use Rattle.mc_core.specs.Refusals.{Is}
use Rattle.mc_drain.specs.declared.end.DrainEnd.{DrainEnd}
use Rattle.mc_drain.specs.declared.end.DrainEnd.TheVariants.{Idle, Spent, KeeperFault, PeerFault, Memory}

-- A call that begins a job or delivers one, by its answer: the events of the replica's own call with this answer have
-- happened, or a fault of the keeper has cut them short, or memory was wanted. No other end comes.
abbrev pub JobCall : {T : Type 0} → (ReplicaState → List Event → T → Type 0) → (ReplicaState → ReplicaState → Type 0)
    → Type 0 → Result T DrainEnd → ReplicaState → ReplicaState → Type 0
JobCall Makes Short rose (Ok value) s new = Does (Is (read_refusal s)) (Makes s) value s new
JobCall Makes Short rose (Err KeeperFault) s new = Faults (Makes s) rose s new
JobCall Makes Short rose (Err Memory) s new = Short s new
JobCall Makes Short rose (Err Idle) s new = ⊥
JobCall Makes Short rose (Err Spent) s new = ⊥
JobCall Makes Short rose (Err PeerFault) s new = ⊥

-- the events of a job that is given back: its block comes to the back of those that wait, where it is in flight
abbrev pub back_events : Cid → Running → List Event
back_events cid run = cond (has cid run.queue.flight) (GiveBack cid ∷ []) []

-- and where the replica has stopped, nothing
abbrev pub GivesBack : Cid → ReplicaState → ReplicaState → Type 0
GivesBack cid s new = HappensIn s.state.run (back_events cid) s new
