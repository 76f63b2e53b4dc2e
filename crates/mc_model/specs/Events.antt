-- The events of a replica: where each may come, and what it changes. An event is all that one holder of the replica
-- does between taking and giving it back, or one commit of its keeper within that.
use Rattle.std.specs.Prelude.{⊤, ℕ, ◌+◌, ◌≤◌, ◌<◌, ◌≡◌, ◌≢◌, Bool, true, false, not, ◌&&◌, List, [], ◌∷◌, ◌++◌, length}
use Rattle.std.specs.Prelude.{take, drop, fold, Option, Some, None, if◌then◌else◌}
use Rattle.mc_base.specs.declared.cid.Cid.{Cid}
use Rattle.mc_model.specs.Graph.{Vertex, times, has, cids_in, in_graph, all_links, no_gaps}
use Rattle.mc_model.specs.State.{Durable, OpenBatch, Walk, Running, State, AllGood, IsSound}
use Rattle.mc_model.specs.Wanted.{Queue, no_queue, want_all, hear_all, start_first, give_back, to_missing, to_bad}
use Rattle.mc_model.specs.Wanted.{requeue, without}

-- Store and Process: blocks are stored, and stored blocks are processed. Hear: a message names blocks. Want: a job
-- begins. GiveBack, Missing, Bad: it ends without a block. Requeue: what is missing or bad is to be tried again.
-- WalkBegin, WalkVisit, WalkEnd: a walk over the processed blocks. Batch: the open batch changes. Stop and Open: the
-- replica stops and runs.
pub data Event : Type 0 where
  Store : (blocks : List Vertex) → Event
  Process : (cids : List Cid) → Event
  Hear : (cids : List Cid) → Event
  Want : Event
  GiveBack : (cid : Cid) → Event
  Missing : (cid : Cid) → Event
  Bad : (cid : Cid) (damage : ℕ) → Event
  Requeue : Event
  WalkBegin : Event
  WalkVisit : Event
  WalkEnd : Event
  Batch : (batch : Option OpenBatch) → Event
  Stop : Event
  Open : Event

-- a walk has a position to visit
abbrev pub IsVisiting : Option Walk → Type 0
IsVisiting None = ⊥
IsVisiting (Some (end, next)) = next < end

-- a walk has visited all its positions
abbrev pub IsVisited : Option Walk → Type 0
IsVisited None = ⊥
IsVisited (Some (end, next)) = next ≡ end

-- where an event may come to a replica that runs: what is stored is good and new, each once; what is processed is
-- something, stored and new, each once; what comes out of flight is there
abbrev pub MayRun : Durable → Running → Event → Type 0
MayRun durable run (Store blocks) =
    AllGood blocks × ((c : Cid) → times c (cids_in durable.graph) + times c (cids_in blocks) ≤ 1)
MayRun durable run (Process cids) =
    (cids ≢ []) × ((c : Cid) → times c durable.order + times c cids ≤ 1)
    × ((c : Cid) → has c cids ≡ true → in_graph durable.graph c ≡ true)
MayRun durable run (Hear cids) = ⊤
MayRun durable run Want = run.queue.waiting ≢ []
MayRun durable run (GiveBack c) = has c run.queue.flight ≡ true
MayRun durable run (Missing c) = has c run.queue.flight ≡ true
MayRun durable run (Bad c damage) = has c run.queue.flight ≡ true
MayRun durable run Requeue = ⊤
MayRun durable run WalkBegin = (run.whole ≡ false) × (run.walk ≡ None)
MayRun durable run WalkVisit = IsVisiting run.walk
MayRun durable run WalkEnd = IsVisited run.walk
MayRun durable run (Batch batch) = ⊤
MayRun durable run Stop = ⊤
MayRun durable run Open = ⊥

-- where an event may come
abbrev pub MayCome : Durable → Option Running → Event → Type 0
MayCome durable (Some run) event = MayRun durable run event
MayCome durable None Open = ⊤
MayCome durable None event = ⊥

-- the mark after a processing: where whole is true, set exactly where there is a gap, and else as it was
abbrev pub processed_mark : Bool → Durable → List Cid → Bool
processed_mark true durable order = not (no_gaps durable.graph order)
processed_mark false durable order = durable.mark

-- the mark after a walk: cleared where there is no gap
abbrev pub ended_mark : Durable → Bool
ended_mark durable = if no_gaps durable.graph durable.order then false else durable.mark

-- only the wanted set changes
abbrev pub with_queue : Durable → Running → Queue → State
with_queue durable run q = record { durable = durable; run = Some (record run { queue = q }) }

-- blocks are stored
abbrev pub with_blocks : Durable → List Vertex → Durable
with_blocks durable blocks = record durable { graph = durable.graph ++ blocks }

-- blocks are processed
abbrev pub with_processed : Bool → Durable → List Cid → Durable
with_processed whole durable cids =
    record {
      graph = durable.graph;
      order = durable.order ++ cids;
      mark = processed_mark whole durable
          (durable.order ++ cids);
    }

-- a walk has ended
abbrev pub with_walk_ended : Durable → Durable
with_walk_ended durable = record durable { mark = ended_mark durable }

-- the wanted set after a processing: without these blocks, and with their links that are neither processed nor wanted
-- at the back of waiting, block by block, in the order of the links, each once
abbrev pub processed_queue : Durable → Queue → List Cid → Queue
processed_queue durable q cids = want_all (durable.order ++ cids) (without q cids) (all_links durable.graph cids)

-- the links of the block at this position
abbrev pub links_at : Durable → ℕ → List Cid
links_at durable position = all_links durable.graph (take 1 (drop position durable.order))

-- a walk after a visit: the links of the next position are wanted
abbrev pub visited : Durable → Running → Option Walk → State
visited durable run None = record { durable = durable; run = Some run }
visited durable run (Some (end, next)) =
    record {
      durable = durable;
      run = Some
          (record run {
            queue = want_all durable.order run.queue (links_at durable next);
            walk = Some (end, next + 1);
          });
    }

-- what an event makes of a replica that runs
abbrev pub runs : Durable → Running → Event → State
runs durable run (Store blocks) = record { durable = with_blocks durable blocks; run = Some run }
runs durable run (Process cids) =
    record {
      durable = with_processed run.whole durable cids;
      run = Some
          (record run { queue = processed_queue durable run.queue cids });
    }
runs durable run (Hear cids) = with_queue durable run (hear_all durable.order run.queue cids)
runs durable run Want = with_queue durable run (start_first run.queue run.queue.waiting)
runs durable run (GiveBack c) = with_queue durable run (give_back run.queue c)
runs durable run (Missing c) = with_queue durable run (to_missing run.queue c)
runs durable run (Bad c damage) = with_queue durable run (to_bad run.queue c damage)
runs durable run Requeue = with_queue durable run (requeue run.queue)
runs durable run WalkBegin =
    record { durable = durable; run = Some (record run { walk = Some (length durable.order, 0) }) }
runs durable run WalkVisit = visited durable run run.walk
runs durable run WalkEnd =
    record { durable = with_walk_ended durable; run = Some (record run { walk = None; whole = true }) }
runs durable run (Batch batch) = record { durable = durable; run = Some (record run { batch = batch }) }
runs durable run Stop = record { durable = durable; run = None }
runs durable run Open = record { durable = durable; run = Some run }

-- what runs after an opening: nothing is wanted, and whole is true exactly where the mark is clear
abbrev pub opened : Durable → Running
opened durable = record { queue = no_queue; walk = None; batch = None; whole = not durable.mark }

-- what an event makes of a replica; one that may not come to a replica that doesn't run changes nothing
abbrev pub comes : Durable → Option Running → Event → State
comes durable (Some run) event = runs durable run event
comes durable None Open = record { durable = durable; run = Some (opened durable) }
comes durable None event = record { durable = durable; run = None }

-- the state after an event
abbrev pub happens : State → Event → State
happens state event = comes state.durable state.run event

-- the state after events, one after another
abbrev pub after : State → List Event → State
after state events = fold happens state events

-- each event may come where it comes
abbrev pub MayComeAll : State → List Event → Type 0
MayComeAll state [] = ⊤
MayComeAll state (event ∷ events) = MayCome state.durable state.run event × MayComeAll (happens state event) events

-- the state is sound before each event, and after the last
abbrev pub StaysSound : State → List Event → Type 0
StaysSound state [] = IsSound state
StaysSound state (event ∷ events) = IsSound state × StaysSound (happens state event) events

-- whether the event is a commit of the keeper: each that changes what outlives a stop
abbrev pub is_commit : Durable → Event → Bool
is_commit durable (Store blocks) = true
is_commit durable (Process cids) = true
is_commit durable WalkEnd = durable.mark && not (ended_mark durable)
is_commit durable event = false

-- a commit that fails has happened wholly, or not at all, and then the replica stops
abbrev pub failed : Bool → Event → List Event
failed true commit = commit ∷ Stop ∷ []
failed false commit = Stop ∷ []

-- the new state comes from the old one by events, each where it may come
pub record Goes (old new : State) : Type 0 where
  pub events : List Event
  pub may : MayComeAll old events
  pub ends : after old events ≡ new

-- the same of what runs, whatever is kept
abbrev pub RunGoes : Running → Running → Type 0
RunGoes old new =
    (durable : Durable) →
    Goes (record { durable = durable; run = Some old }) (record { durable = durable; run = Some new })

-- the processed blocks go on from the old ones, and so do the stored ones
pub record GoesOn (old new : Durable) : Type 0 where
  pub processed : List Cid
  pub stored : List Vertex
  pub order : new.order ≡ old.order ++ processed
  pub graph : new.graph ≡ old.graph ++ stored
