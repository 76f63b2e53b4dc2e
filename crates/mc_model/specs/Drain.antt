-- What a drain of the wanted set comes to. The definition has no order, workers or jobs.
use Rattle.std.specs.Prelude.{⊤, ℕ, ◌≡◌, ◌⊎◌, Bool, true, false, not, ◌&&◌, ◌||◌, List, [], ◌∷◌, ◌++◌, Option, Some}
use Rattle.std.specs.Prelude.{None}
use Rattle.std.specs.List.{flat_map}
use Rattle.mc_base.specs.declared.cid.Cid.{Cid}
use Rattle.mc_model.specs.Events.{Event, Store, Process, Want, GiveBack, Missing, Bad, Requeue, happens}
use Rattle.mc_model.specs.Found.{Nothing, Damaged, Offers, is_found, found_links}
use Rattle.mc_model.specs.Graph.{has, in_graph, links_in}
use Rattle.mc_model.specs.State.{Durable, Running, State, wanted_in}
use Rattle.mc_model.specs.Wanted.{Queue, wanted}

-- the block has a good offer and isn't processed
abbrev pub is_new : Offers → List Cid → Cid → Bool
is_new found order c = is_found (found c) && not (has c order)

-- whether the path, read from its end, goes from a wanted block to this one over blocks that are new
abbrev pub is_way : Offers → List Cid → List Cid → List Cid → Cid → Bool
is_way found order start [] c = has c start && is_new found order c
is_way found order start (m ∷ path) c =
    is_way found order start path m && (has c (found_links (found m)) && is_new found order c)

-- a block that a drain adds
pub record IsAdded (found : Offers) (order start : List Cid) (c : Cid) : Type 0 where
  pub path : List Cid
  pub along : is_way found order start path c ≡ true

-- The block is in the least set that holds the processed blocks, the wanted ones with a good offer, and with each block
-- added its links with a good offer.
abbrev pub IsClosed : Offers → List Cid → List Cid → Cid → Type 0
IsClosed found order start c = (has c order ≡ true) ⊎ IsAdded found order start c

-- a block that one that is added links to
pub record IsLinkOfAdded (found : Offers) (order start : List Cid) (c : Cid) : Type 0 where
  pub from : Cid
  pub added : IsAdded found order start from
  pub linked : has c (found_links (found from)) ≡ true

-- wanted, or a link of a block added
abbrev pub IsComing : Offers → List Cid → List Cid → Cid → Type 0
IsComing found order start c = (has c start ≡ true) ⊎ IsLinkOfAdded found order start c

-- the links of these blocks, as they were offered
abbrev pub offered_links : Offers → List Cid → List Cid
offered_links found cids = flat_map (λ c. found_links (found c)) cids

-- whether each of the blocks was wanted, or is linked by one before it
abbrev pub is_in_order : Offers → List Cid → List Cid → List Cid → Bool
is_in_order found start before [] = true
is_in_order found start before (c ∷ added) =
    (has c start || has c (offered_links found before)) && is_in_order found start (before ++ c ∷ []) added

-- what the events of a drain are: only wanted blocks with a good offer are stored and processed, with the links that
-- were offered; missing is what has no offer, and bad what has a damaged one
abbrev pub DrainRuns : Offers → Durable → Running → Event → Type 0
DrainRuns found durable run (Store blocks) =
    (c : Cid) → in_graph blocks c ≡ true → (has c (wanted run.queue) ≡ true) × (is_found (found c) ≡ true)
DrainRuns found durable run (Process cids) =
    (c : Cid) → has c cids ≡ true →
    (has c (wanted run.queue) ≡ true) × (is_found (found c) ≡ true) × (links_in durable.graph c ≡ found_links (found c))
DrainRuns found durable run Want = ⊤
DrainRuns found durable run (GiveBack c) = ⊤
DrainRuns found durable run (Missing c) = found c ≡ Nothing
DrainRuns found durable run (Bad c damage) = found c ≡ Damaged damage
DrainRuns found durable run Requeue = ⊤
DrainRuns found durable run event = ⊥

-- the same, where the replica runs
abbrev pub Drains : Offers → Durable → Option Running → Event → Type 0
Drains found durable None event = ⊥
Drains found durable (Some run) event = DrainRuns found durable run event

-- each event is one of a drain
abbrev pub DrainsAll : Offers → State → List Event → Type 0
DrainsAll found state [] = ⊤
DrainsAll found state (event ∷ events) =
    Drains found state.durable state.run event × DrainsAll found (happens state event) events

-- nothing that is wanted has a good offer
abbrev pub IsDrained : Offers → State → Type 0
IsDrained found state = (c : Cid) → has c (wanted_in state.run) ≡ true → is_found (found c) ≡ false

-- After a drain, the processed blocks are the closed set, the added ones in order, the added ones are what was stored,
-- and what is wanted is what was wanted or is a link of a block added, less the closed set.
pub record IsClosure (found : Offers) (old : Durable) (start : List Cid) (new : Durable) (queue : List Cid)
    : Type 0 where
  pub added : List Cid
  pub grown : new.order ≡ old.order ++ added
  pub in_order : is_in_order found start [] added ≡ true
  pub within : (c : Cid) → has c new.order ≡ true → IsClosed found old.order start c
  pub whole : (c : Cid) → IsClosed found old.order start c → has c new.order ≡ true
  pub stored : (c : Cid) → in_graph new.graph c ≡ true → (in_graph old.graph c ≡ true) ⊎ (has c added ≡ true)
  pub coming : (c : Cid) → has c queue ≡ true →
      IsComing found old.order start c × (IsClosed found old.order start c → ⊥)
  pub left : (c : Cid) → IsComing found old.order start c → (IsClosed found old.order start c → ⊥) → has c queue ≡ true

-- A drain that isn't at its end is within that.
pub record IsSoFar (found : Offers) (old : Durable) (start : List Cid) (new : Durable) (queue : List Cid) : Type 0 where
  pub added : List Cid
  pub grown : new.order ≡ old.order ++ added
  pub in_order : is_in_order found start [] added ≡ true
  pub within : (c : Cid) → has c new.order ≡ true → IsClosed found old.order start c
  pub stored : (c : Cid) → in_graph new.graph c ≡ true → (in_graph old.graph c ≡ true) ⊎ IsAdded found old.order start c
  pub coming : (c : Cid) → has c queue ≡ true → IsComing found old.order start c

-- each of these has no offer
abbrev pub AllNothing : Offers → List Cid → Type 0
AllNothing found [] = ⊤
AllNothing found (c ∷ cids) = (found c ≡ Nothing) × AllNothing found cids

-- each of these has a damaged offer, of its number
abbrev pub AllDamaged : Offers → List (Cid × ℕ) → Type 0
AllDamaged found [] = ⊤
AllDamaged found (b ∷ bad) = (found b.0 ≡ Damaged b.1) × AllDamaged found bad

-- missing and bad hold what their names say
abbrev pub PartsFit : Offers → Queue → Type 0
PartsFit found q = AllNothing found q.missing × AllDamaged found q.bad

-- so it is, and the replica runs
abbrev pub RunFits : Offers → Option Running → Type 0
RunFits found None = ⊥
RunFits found (Some run) = PartsFit found run.queue

-- nothing waits, and nothing is in flight
abbrev pub IsEmptied : Option Running → Type 0
IsEmptied None = ⊥
IsEmptied (Some run) = (run.queue.waiting ≡ []) × (run.queue.flight ≡ [])
