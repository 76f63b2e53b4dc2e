-- How far a repair has come, as a fact about two states: a drain of the wanted set beside a walk that finds the gaps.
-- That the links of the blocks which the walk has visited are processed or wanted is a part of a sound state.
use Rattle.std.specs.Prelude.{⊤, ℕ, ◌≤◌, ◌≡◌, Bool, true, false, ◌||◌, List, [], ◌∷◌, ◌++◌, Option, Some, None, is_some}
use Rattle.mc_base.specs.declared.cid.Cid.{Cid}
use Rattle.mc_model.specs.Drain.{is_new, is_in_order, offered_links, DrainRuns}
use Rattle.mc_model.specs.Draining.{FoundBytes, offers_of, queue_in, bytes_in, came, may_be_stored}
use Rattle.mc_model.specs.Events.{Event, WalkBegin, WalkVisit, WalkEnd, happens}
use Rattle.mc_model.specs.Found.{Offers, found_links}
use Rattle.mc_model.specs.Graph.{has, in_graph, links_in, gaps_in}
use Rattle.mc_model.specs.State.{Durable, Running, State}
use Rattle.mc_model.specs.Wanted.{Queue, wanted, held}

-- these blocks and the gaps
abbrev pub with_gaps : Durable → List Cid → List Cid
with_gaps old start = start ++ gaps_in old.graph old.order

-- From the durable state `old`, where `start` was wanted, these blocks were added by a repair, and `q` is wanted now.
pub record RepairsWith (found : Offers) (old : Durable) (start : List Cid) (now : Durable) (q : Queue)
    (added : List Cid) : Type 0 where
  -- the added blocks follow those that were processed
  pub grown : now.order ≡ old.order ++ added
  -- each has a good offer, and was not processed
  pub good : (c : Cid) → has c added ≡ true → is_new found old.order c ≡ true
  -- each was wanted at the start, or was a gap, or is linked by one before it
  pub in_order : is_in_order found (with_gaps old start) [] added ≡ true
  -- what was wanted at the start is processed or wanted; of a gap that is said only after the walk
  pub still : (c : Cid) → has c start ≡ true → 1 ≤ held now.order q c
  -- what an added block links to is processed or wanted
  pub linked : (c : Cid) → has c (offered_links found added) ≡ true → 1 ≤ held now.order q c
  -- nothing is wanted that was not, but gaps and what added blocks link to
  pub traced : (c : Cid) → has c (wanted q) ≡ true →
      (has c (with_gaps old start) || has c (offered_links found added)) ≡ true
  -- the blocks that were processed have the same links, and each added one those that were offered
  pub same : (c : Cid) → has c old.order ≡ true → links_in now.graph c ≡ links_in old.graph c
  pub offered : (c : Cid) → has c added ≡ true → links_in now.graph c ≡ found_links (found c)

-- the same, where what was processed since is what was added
abbrev pub IsRepairing : Offers → Durable → List Cid → Durable → Queue → Type 0
IsRepairing found old start now q = RepairsWith found old start now q (came old.order now.order)

-- From the durable state `old`, where `start` was wanted, a repair has come to this state, and it is known which bytes
-- are found.
pub record HasRepaired (bytes_of : FoundBytes) (kept : List Cid) (old : Durable) (start : List Cid) (state : State)
    : Type 0 where
  pub repairing : IsRepairing (offers_of bytes_of) old start state.durable (queue_in state.run)
  -- each stored block has the bytes that are found
  pub stored : (c : Cid) (bytes : List ℕ) → bytes_in state.durable.graph c ≡ Some bytes → bytes_of c ≡ Some bytes
  -- nothing was stored but what the drain takes
  pub taken : (c : Cid) → in_graph state.durable.graph c ≡ true
      → may_be_stored (offers_of bytes_of) old state.durable (queue_in state.run) c ≡ true
  -- these are stored
  pub own : (c : Cid) → has c kept ≡ true → is_some (bytes_in state.durable.graph c) ≡ true

-- whether the event is one of a walk
abbrev pub is_of_walk : Event → Bool
is_of_walk WalkBegin = true
is_of_walk WalkVisit = true
is_of_walk WalkEnd = true
is_of_walk event = false

-- what the events of a repair are: those of a walk, and those of a drain
abbrev pub RepairRuns : Offers → Durable → Running → Event → Type 0
RepairRuns found durable run WalkBegin = ⊤
RepairRuns found durable run WalkVisit = ⊤
RepairRuns found durable run WalkEnd = ⊤
RepairRuns found durable run event = DrainRuns found durable run event

-- the same, where the replica runs
abbrev pub Repairs : Offers → Durable → Option Running → Event → Type 0
Repairs found durable None event = ⊥
Repairs found durable (Some run) event = RepairRuns found durable run event

-- each event is one of a repair
abbrev pub RepairsAll : Offers → State → List Event → Type 0
RepairsAll found state [] = ⊤
RepairsAll found state (event ∷ events) =
    Repairs found state.durable state.run event × RepairsAll found (happens state event) events
