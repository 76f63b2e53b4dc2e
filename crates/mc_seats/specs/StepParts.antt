-- A step of a replica in its parts: a job begins, bytes are asked for among the peers, and the job ends.
use Rattle.std.specs.Prelude.{◌≡◌, ◌≤◌, ◌&&◌, ℕ, Bool, true, false, cond, List, ◌∷◌, map, Option}
use Rattle.std.specs.Prelude.{Some, None, Result, Ok, Err, IfOk, IfErr, IfSome, IsErrOf}
use Rattle.std.specs.List.{AllZip, list_all, sum_by}
use Rattle.mc_base.specs.Causes.{Rose}
use Rattle.mc_base.specs.declared.cid.Cid.{Cid}
use Rattle.mc_base.specs.declared.counted.Counted as counted
use Rattle.mc_core.specs.declared.replica.Replica.{Replica}
use Rattle.mc_fetch.specs.declared.error.FetchError.{FetchError}
use Rattle.mc_fetch.specs.declared.error.FetchError.TheVariants.{Failed, Memory as FetchMemory}
use Rattle.mc_fetch.specs.declared.job.Job.{Job}
use Rattle.mc_fetch.specs.declared.peers.PeerView.{PeerView}
use Rattle.mc_fetch.specs.declared.plants.Planted.{Planted}
use Rattle.mc_fetch.specs.Offers.{HasDigest, first_offer}
use Rattle.mc_fetch.specs.Peers.{offers_at, peer_places}
use Rattle.mc_keep.specs.Calls.{Members}
use Rattle.mc_keep.specs.declared.keeper.Keeper as keeper
use Rattle.mc_model.specs.Graph.{has}
use Rattle.mc_model.specs.Kept.{Kept, bytes_at}
use Rattle.mc_model.specs.State.{Running, kept_of}
use Rattle.mc_model.specs.Wanted.{start_first}
use Rattle.mc_script.specs.declared.command.Command.TheVariants.{Step}
use Rattle.mc_script.specs.declared.reply.Reply.{Reply}
use Rattle.mc_script.specs.declared.reply.Reply.TheVariants.{FaultPeer, Idle}
use Rattle.mc_seats.specs.declared.error.ActError.{ActError}
use Rattle.mc_seats.specs.declared.error.ActError.TheVariants.{BadLine, Memory}
use Rattle.mc_seats.specs.declared.links.Link.{Link}
use Rattle.mc_seats.specs.declared.seat.Held.TheVariants.{Up}
use Rattle.mc_seats.specs.declared.seat.Seat.{Seat}
use Rattle.mc_seats.specs.declared.world.World.{World}
use Rattle.mc_seats.specs.Desked.{is_full_list}
use Rattle.mc_seats.specs.Fetching.{Decides, IsFound, IsFoundIn, planted_alone}
use Rattle.mc_seats.specs.Keepers.{DeskStays, desk_count, is_calm_desk, is_calm_keeper, keeper_of}
use Rattle.mc_seats.specs.Record.{RoseIn}
use Rattle.mc_seats.specs.Step.{GivesBack, ShortAt, answers_fault, is_fault}
use Rattle.mc_seats.specs.Words.{KeeperGoes, PlaceRow}
use Rattle.mc_seats.specs.Worlds.{IfRuns, Place, WorldState, is_linked, is_marked, is_up}
use Rattle.mc_seats.specs.Worlds.{peer_row, peers_of, picked, place_with, state_at}

-- what a call answers that begins a job, or none where nothing waits
abbrev pub begun_of : Option Job → Result Job Reply
begun_of None = Err Idle
begun_of (Some job) = Ok job

-- Between two places: the first block that waits is in flight, and nothing else has changed.
pub record Begun (cid : Cid) (p q : Place) : Type 0 where
  pub run : Running
  pub runs : p.run ≡ Some run
  pub rest : List Cid
  pub waits : run.queue.waiting ≡ cid ∷ rest
  pub after : q ≡ record p { run = Some (record run { queue = start_first run.queue run.queue.waiting }) }

-- a job begins, with the bytes that are stored under its block
pub record BeginsJob (job : Job) (p q : Place) : Type 0 where
  pub begun : Begun job.cid p q
  pub stored : IfSome (state_at p) (λ s. job.own ≡ bytes_at (kept_of s.state.durable).graph job.cid)
  pub digest : IfSome job.own (HasDigest job.cid)

-- the block is in flight at a replica that runs
abbrev pub IsFlying : Cid → Place → Type 0
IsFlying cid q = IfRuns q.run (λ run. has cid run.queue.flight ≡ true)

-- these bytes, or none, are found for a block
abbrev pub IsFoundAt : WorldState → ℕ → Place → Cid → Option (List ℕ) → Type 0
IsFoundAt w r p cid found = IfSome (state_at p) (λ s. IsFound (kept_of s.state.durable) (peers_of w r) cid found)

-- the places of those that r fetches from, where these are all
abbrev pub peers_among : List Link → ℕ → List Place → List Place
peers_among down r places = picked (peer_row down r 0 places) places

-- whether r fetches from the replica with this number, at this place
abbrev pub is_peer_at : List Link → ℕ → ℕ → Place → Bool
is_peer_at down r number p = is_linked down r number && is_up p.run

-- the desks of views
abbrev pub desks_in_views : {K D : Type 0} → List (PeerView K D) → List D
desks_in_views {K} {D} views = map (λ (view : PeerView K D). view.desk) views

-- what is offered for a block by a replica with these planted offers and this content: where that isn't told, what is
-- planted, where this has the digest, and else anything
abbrev pub IsOffered : List Planted → Option Kept → Cid → Option (List ℕ) → Type 0
IsOffered planted None cid found = Decides (first_offer cid (peer_places (planted_alone planted cid))) false found
IsOffered planted (Some kept) cid found = found ≡ first_offer cid (peer_places (offers_at planted kept cid))

-- what peers are found to offer for a block, as far as they tell
abbrev pub IsOfferedBy : List Place → Cid → Option (List ℕ) → Type 0
IsOfferedBy peers cid found = IsFoundIn None peers cid found

-- these are found for a block with these bytes of the replica's own, or none, whatever it has stored besides
abbrev pub IsFoundFor : WorldState → ℕ → Option (List ℕ) → Cid → Option (List ℕ) → Type 0
IsFoundFor w r own cid found = (kept : Kept) → own ≡ bytes_at kept.graph cid → IsFound kept (peers_of w r) cid found

-- what is answered where a fetch failed, or where memory was wanted
abbrev pub given_up_of : FetchError → Result Reply ActError
given_up_of Failed = Ok FaultPeer
given_up_of FetchMemory = Err Memory

-- whether a beginning is answered by a fault
abbrev pub begins_fault : Result (Result Job Reply) ActError → Bool
begins_fault (Ok (Ok job)) = false
begins_fault (Ok (Err reply)) = is_fault reply
begins_fault (Err error) = false

-- a count of a desk of one that r fetches from rose
pub record PeerFailed {D : Type 0} (desk_faults : D → ℕ) (row : List Bool) (olds news : List (List D)) : Type 0 where
  pub at : ℕ
  pub among : is_marked row at ≡ true
  pub rose : RoseIn (desk_count desk_faults) olds news at

-- but for the desks, a world is as it was
pub record SameButDesks {K D : Type 0} {g : keeper.Ghosts K D} {h : counted.Ghosts K} {i : counted.Ghosts D}
    (old new : World K D g h i) : Type 0 where
  pub seats_same : new.seats ≡ old.seats
  pub bag_same : new.bag ≡ old.bag
  pub down_same : new.down ≡ old.down
  pub entries_same : new.entries ≡ old.entries

module _ {K D : Type 0} (k : Members K D) where
  -- no count has changed
  pub record SameCounts (old new : K) : Type 0 where
    pub own_same : k.own new ≡ k.own old
    pub faults_same : k.faults new ≡ k.faults old

  abbrev pub StepRow : WorldState → ℕ → K → K → Place → Place → Reply → Type 0
  StepRow w r x y p q reply = PlaceRow w (Step r) (Rose (k.faults x) (k.faults y)) (Rose (k.own x) (k.own y)) p q reply

  -- What the beginning of a job makes of a place and of its keeper: a job, or this is answered in its place.
  pub record BeginsAt (result : Result (Result Job Reply) ActError) (p q : Place) (x y : K) : Type 0 where
    pub begins : IfOk result (λ said. IfOk said (λ job. BeginsJob job p q × SameCounts x y))
    pub early : (w : WorldState) (r : ℕ) → IfOk result (λ said. IfErr said (StepRow w r x y p q))
    pub short : (r : ℕ) → IsErrOf result Memory → ShortAt (Step r) p q
    pub not_bad : IsErrOf result BadLine → ⊥
    pub goes : KeeperGoes k (cond (begins_fault result) 1 0) 0 x y

  -- What is found for a job is delivered, which began at a place `p`.
  pub record DeliversAt (cid : Cid) (found : Option (List ℕ)) (result : Result Reply ActError) (q left : Place)
      (x y : K) : Type 0 where
    pub row : (w : WorldState) (r : ℕ) (p : Place) → Begun cid p q → IsFoundAt w r p cid found
        → IfOk result (StepRow w r x y p left)
    pub short : (r : ℕ) (p : Place) → Begun cid p q → IsErrOf result Memory → ShortAt (Step r) p left
    pub not_bad : IsErrOf result BadLine → ⊥
    pub goes : KeeperGoes k (cond (answers_fault result) 1 0) 0 x y

  -- A job is given back, which began at a place `p`.
  pub record BacksAt (cid : Cid) (q left : Place) (x y : K) : Type 0 where
    pub back : (p : Place) → Begun cid p q → GivesBack p left
    pub short : (r : ℕ) (p : Place) → Begun cid p q → ShortAt (Step r) p left
    pub same : y ≡ x

  -- what is offered by a replica with these planted offers, where its keeper tells
  abbrev pub IsToldAt : K → List Planted → Cid → Option (List ℕ) → Type 0
  IsToldAt keeper planted cid found =
      IfSome (k.told keeper) (λ kept. found ≡ first_offer cid (peer_places (offers_at planted kept cid)))

  -- and what is planted, also where it doesn't
  abbrev pub IsOfferedAt : K → List Planted → Cid → Option (List ℕ) → Type 0
  IsOfferedAt keeper planted cid found = IsOffered planted (k.told keeper) cid found

  module _ (desk_faults : D → ℕ) where
    -- What calls through the desks of a replica leave of them: each stands at its place, their counts never fall, and
    -- where its keeper is quiet what is calm stays calm.
    pub record DesksGo (quiet : Bool) (old new : List D) : Type 0 where
      pub each : AllZip (DeskStays k desk_faults) old new
      pub full : is_full_list old ≡ true → is_full_list new ≡ true
      pub later : sum_by desk_faults old ≤ sum_by desk_faults new
      pub calm : quiet ≡ true → list_all (is_calm_desk k desk_faults) old ≡ true
          → list_all (is_calm_desk k desk_faults) new ≡ true

    -- one call, after which a count rose where it failed
    pub record DesksAsk (quiet failed : Bool) (old new : List D) : Type 0 where
      pub goes : DesksGo quiet old new
      pub rose : failed ≡ true → Rose (sum_by desk_faults old) (sum_by desk_faults new)

    -- the same of all desks, each by its replica
    abbrev pub AllDesksGo : Bool → List (List D) → List (List D) → Type 0
    AllDesksGo quiet olds news = AllZip (DesksGo quiet) olds news

module _ {K D : Type 0} {g : keeper.Ghosts K D} {h : counted.Ghosts K} {i : counted.Ghosts D} (k : Members K D) where
  -- the place of a replica that is held, with these planted offers
  abbrev pub up : List Planted → Replica K D g h i → Place
  up planted replica = place_with k.told k.fuse planted (Up replica)

  -- whether the keepers of all replicas are calm
  abbrev pub are_calm : List (Seat K D g h i) → Bool
  are_calm seats = list_all (λ (seat : Seat K D g h i). is_calm_keeper k (keeper_of seat)) seats
