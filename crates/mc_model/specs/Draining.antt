-- How far a drain of the wanted set has come, as a fact about two states: it names no event, and has one proof at most.
use Rattle.std.specs.Prelude.{⊤, ℕ, ◌≤◌, ◌≡◌, Bool, true, false, ◌&&◌, ◌||◌, List, [], ◌∷◌, ◌++◌, length, drop, map}
use Rattle.std.specs.Prelude.{find, Option, Some, None, Result, Ok, Err, is_some}
use Rattle.std.specs.Option.{option_map}
use Rattle.mc_base.specs.declared.cid.Cid.{Cid}
use Rattle.mc_model.specs.declared.block.Block.{Block}
use Rattle.mc_model.specs.Drain.{is_new, is_in_order, offered_links, IsClosed, IsComing}
use Rattle.mc_model.specs.Events.{Event, Store, Process, Want, GiveBack, Missing, Bad, Requeue, happens}
use Rattle.mc_model.specs.Found.{Nothing, Damaged, Offers, found_as, is_found, damage_number}
use Rattle.mc_model.specs.Front.{same_cid}
use Rattle.mc_model.specs.Graph.{Vertex, has, in_graph}
use Rattle.mc_model.specs.Offer.{Damage, offer}
use Rattle.mc_model.specs.State.{Durable, Running, State, vertex_of}
use Rattle.mc_model.specs.Wanted.{Queue, no_queue, wanted, held}

-- the wanted set, and nothing where the replica doesn't run
abbrev pub queue_in : Option Running → Queue
queue_in None = no_queue
queue_in (Some run) = run.queue

-- the bytes of a stored block
abbrev pub bytes_in : List Vertex → Cid → Option (List ℕ)
bytes_in graph c =
    option_map (λ (vertex : Vertex). vertex.bytes) (find (λ (vertex : Vertex). same_cid c vertex.cid) graph)

-- which bytes are found for each block, or none
abbrev pub FoundBytes : Type 0
FoundBytes = Cid → Option (List ℕ)

-- what these bytes come to
abbrev pub offers_of : FoundBytes → Offers
offers_of bytes_of c = found_as c (bytes_of c)

-- what was processed since
abbrev pub came : List Cid → List Cid → List Cid
came order now = drop (length order) now

-- From the durable state `old`, where `start` was wanted, these blocks were added by a drain, and `q` is wanted now.
pub record DrainsWith (found : Offers) (old : Durable) (start : List Cid) (now : Durable) (q : Queue)
    (added : List Cid) : Type 0 where
  -- the added blocks follow those that were processed
  pub grown : now.order ≡ old.order ++ added
  -- each has a good offer, and was not processed
  pub good : (c : Cid) → has c added ≡ true → is_new found old.order c ≡ true
  -- each was wanted at the start, or is linked by one before it
  pub in_order : is_in_order found start [] added ≡ true
  -- what was wanted at the start is processed or wanted
  pub still : (c : Cid) → has c start ≡ true → 1 ≤ held now.order q c
  -- so is what an added block links to
  pub linked : (c : Cid) → has c (offered_links found added) ≡ true → 1 ≤ held now.order q c
  -- nothing else is wanted
  pub traced : (c : Cid) → has c (wanted q) ≡ true → (has c start || has c (offered_links found added)) ≡ true

-- the same, where what was processed since is what was added
abbrev pub IsDraining : Offers → Durable → List Cid → Durable → Queue → Type 0
IsDraining found old start now q = DrainsWith found old start now q (came old.order now.order)

-- The drain is at its end: the processed blocks are the closed set, and what is wanted is what was wanted or is a link
-- of a block added, less the closed set.
pub record IsClosing (found : Offers) (old : Durable) (start : List Cid) (now : Durable) (q : Queue) : Type 0 where
  pub within : (c : Cid) → has c now.order ≡ true → IsClosed found old.order start c
  pub whole : (c : Cid) → IsClosed found old.order start c → has c now.order ≡ true
  pub coming : (c : Cid) → has c (wanted q) ≡ true →
      IsComing found old.order start c × (IsClosed found old.order start c → ⊥)
  pub left : (c : Cid) → IsComing found old.order start c → (IsClosed found old.order start c → ⊥) →
      has c (wanted q) ≡ true

-- whether a drain may have the block stored: it was before, or it is added, or it is wanted and has a good offer
abbrev pub may_be_stored : Offers → Durable → Durable → Queue → Cid → Bool
may_be_stored found old now q c =
    in_graph old.graph c || (has c (came old.order now.order) || (has c (wanted q) && is_found (found c)))

-- From the durable state `old`, where `start` was wanted, a drain has come to this state, and it is known which bytes
-- are found.
pub record HasDrained (bytes_of : FoundBytes) (kept : List Cid) (old : Durable) (start : List Cid) (state : State)
    : Type 0 where
  pub draining : IsDraining (offers_of bytes_of) old start state.durable (queue_in state.run)
  -- each stored block has the bytes that are found
  pub stored : (c : Cid) (bytes : List ℕ) → bytes_in state.durable.graph c ≡ Some bytes → bytes_of c ≡ Some bytes
  -- nothing was stored but what the drain takes
  pub taken : (c : Cid) → in_graph state.durable.graph c ≡ true
      → may_be_stored (offers_of bytes_of) old state.durable (queue_in state.run) c ≡ true
  -- these are stored
  pub own : (c : Cid) → has c kept ≡ true → is_some (bytes_in state.durable.graph c) ≡ true

-- what an event of a drain asks where it is known which bytes are found: a block that is stored is wanted, and has the
-- bytes that are found; one that is processed is wanted
abbrev pub TakesRun : FoundBytes → Running → Event → Type 0
TakesRun bytes_of run (Store blocks) =
    (c : Cid) (bytes : List ℕ) → bytes_in blocks c ≡ Some bytes →
    (has c (wanted run.queue) ≡ true) × (bytes_of c ≡ Some bytes)
TakesRun bytes_of run (Process cids) = (c : Cid) → has c cids ≡ true → has c (wanted run.queue) ≡ true
TakesRun bytes_of run Want = ⊤
TakesRun bytes_of run (GiveBack c) = ⊤
TakesRun bytes_of run (Missing c) = ⊤
TakesRun bytes_of run (Bad c damage) = ⊤
TakesRun bytes_of run Requeue = ⊤
TakesRun bytes_of run event = ⊥

-- the same, where the replica runs
abbrev pub Takes : FoundBytes → Option Running → Event → Type 0
Takes bytes_of None event = ⊥
Takes bytes_of (Some run) event = TakesRun bytes_of run event

-- each event asks no more than that
abbrev pub TakesAll : FoundBytes → State → List Event → Type 0
TakesAll bytes_of state [] = ⊤
TakesAll bytes_of state (event ∷ events) =
    Takes bytes_of state.run event × TakesAll bytes_of (happens state event) events

-- what an event says of an offer: a block is missing where it has none, and bad where it has one of this damage
abbrev pub SaysRight : Offers → Event → Type 0
SaysRight found (Missing c) = found c ≡ Nothing
SaysRight found (Bad c damage) = found c ≡ Damaged damage
SaysRight found event = ⊤

-- each of them is right
abbrev pub AllSayRight : Offers → List Event → Type 0
AllSayRight found [] = ⊤
AllSayRight found (event ∷ events) = SaysRight found event × AllSayRight found events

-- where something was handed over, it is what is found for the block
abbrev pub IsFoundFor : FoundBytes → Cid → Option (List ℕ) → Type 0
IsFoundFor bytes_of c None = ⊤
IsFoundFor bytes_of c (Some bytes) = bytes_of c ≡ Some bytes

-- bytes that were handed over for a block: damaged ones make it bad, and a good block is stored, unless it is, and then
-- processed
abbrev pub taken_up : Bool → Cid → List ℕ → Result Block Damage → List Event
taken_up is_stored c bytes (Err damage) = Bad c (damage_number damage) ∷ []
taken_up true c bytes (Ok block) = Process (c ∷ []) ∷ []
taken_up false c bytes (Ok block) = Store (vertex_of (record { cid = c; bytes = bytes }) ∷ []) ∷ Process (c ∷ []) ∷ []

-- the events of a delivery, of these bytes or of none, for a block in flight
abbrev pub delivery : List Vertex → Cid → Option (List ℕ) → List Event
delivery graph c None = Missing c ∷ []
delivery graph c (Some bytes) = taken_up (in_graph graph c) c bytes (offer c bytes)

-- each of these comes back from flight, one after another
abbrev pub all_given_back : List Cid → List Event
all_given_back cids = map GiveBack cids
