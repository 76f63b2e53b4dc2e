-- The words of a drain's calls.
use Rattle.std.specs.Prelude.{◌≡◌, ◌≤◌, ◌⊎◌, ⊤, ℕ, nat_le, length, Bool, true, false, List, [], ◌∷◌, ◌++◌, Option, Some, None, Result, Ok}
use Rattle.std.specs.Prelude.{Err}
use Rattle.mc_base.specs.declared.cid.Cid.{Cid}
use Rattle.mc_fetch.specs.Fits.{FetchFits, Map, OwnFits}
use Rattle.mc_fetch.specs.declared.error.FetchError.{FetchError}
use Rattle.mc_fetch.specs.declared.error.FetchError.TheVariants as fetch
use Rattle.mc_fetch.specs.declared.job.Delivered.{Delivered}
use Rattle.mc_fetch.specs.declared.job.Job.{Job}
use Rattle.mc_model.specs.Drain.{PartsFit}
use Rattle.mc_model.specs.Draining.{HasDrained, IsFoundFor, offers_of, queue_in}
use Rattle.mc_model.specs.Events.{GoesOn}
use Rattle.mc_model.specs.Found.{found_as, is_found}
use Rattle.mc_model.specs.Graph.{has}
use Rattle.mc_model.specs.Offer.{Damage, offer}
use Rattle.mc_model.specs.State.{Durable}
use Rattle.mc_model.specs.Wanted.{Queue, start_first}
use Rattle.mc_queue.specs.Parts.{first_of}
use Rattle.mc_core.specs.Events.{ReplicaState}
use Rattle.mc_core.specs.Jobs.{WantsAfter}
use Rattle.mc_drain.specs.declared.end.DrainEnd.{DrainEnd}
use Rattle.mc_drain.specs.declared.end.DrainEnd.TheVariants.{Idle, Spent, KeeperFault, PeerFault, Memory}
use Rattle.mc_drain.specs.Leads.{DrainsOn, FuseGoes, HasBrokenOff, commits_between, count, up_to}

-- the end where a fetch gave none
abbrev pub end_by : FetchError → DrainEnd
end_by fetch.Failed = PeerFault
end_by fetch.Memory = Memory

-- whether the keeper failed
abbrev pub is_keeper : DrainEnd → Bool
is_keeper Idle = false
is_keeper Spent = false
is_keeper KeeperFault = true
is_keeper PeerFault = false
is_keeper Memory = false

-- whether the fetch failed
abbrev pub is_peer : DrainEnd → Bool
is_peer Idle = false
is_peer Spent = false
is_peer KeeperFault = false
is_peer PeerFault = true
is_peer Memory = false

-- the same of a turn, which may be no end
abbrev pub keeper_failed : Option DrainEnd → Bool
keeper_failed None = false
keeper_failed (Some end) = is_keeper end

abbrev pub peer_failed : Option DrainEnd → Bool
peer_failed None = false
peer_failed (Some end) = is_peer end

-- what is found is what a fetch that tells this finds
abbrev pub Fetched : Option Map → Map → List Cid → Type 0
Fetched offers map kept = FetchFits (Some map) kept offers

-- and so are these own bytes of a block
abbrev pub FetchedFor : Option Map → Cid → Option (List ℕ) → Map → List Cid → Type 0
FetchedFor offers cid own map kept = FetchFits (Some map) kept offers × OwnFits (Some map) kept cid own

-- this is found for a block
abbrev pub FoundFor : Cid → Option (List ℕ) → Map → List Cid → Type 0
FoundFor cid found map kept = map cid ≡ found

-- these bytes are found for a block, where there are any
abbrev pub TakenFor : Cid → Option (List ℕ) → Map → List Cid → Type 0
TakenFor cid found map kept = IsFoundFor map cid found

-- the jobs that a call began, and whether it failed
abbrev pub begin_failed : {T : Type 0} → Result T DrainEnd → Bool
begin_failed (Ok job) = false
begin_failed (Err end) = is_keeper end

-- what is wanted once a job has begun, or where none has
abbrev pub Begins : Queue → Queue → Option Job → Type 0
Begins q left None = (q.waiting ≡ []) × (left ≡ q)
Begins q left (Some job) = (Some job.cid ≡ first_of q.waiting) × (left ≡ start_first q q.waiting)

-- a job of a block has ended: the block was processed, or it is missing or bad, and nothing else that is waits again
pub record EndsJob (q left : Queue) (cid : Cid) : Type 0 where
  pub delivered : Delivered
  pub after : WantsAfter delivered q left cid

-- and so has a turn, which takes the first block that waits
pub record Turns (q left : Queue) : Type 0 where
  pub first : Cid
  pub takes : Some first ≡ first_of q.waiting
  pub ends : EndsJob (start_first q q.waiting) left first

-- an end that no answer of a replica has
abbrev pub IsBroken : DrainEnd → Type 0
IsBroken Idle = ⊥
IsBroken Spent = ⊥
IsBroken KeeperFault = ⊤
IsBroken PeerFault = ⊥
IsBroken Memory = ⊤

-- the bytes that were found are no block
abbrev pub IsNoBlock : Cid → Option (List ℕ) → Type 0
IsNoBlock cid None = ⊤
IsNoBlock cid (Some bytes) = (why : Damage) × (offer cid bytes ≡ Err why)

-- whether they are a block
abbrev pub IsGoodness : Bool → Cid → Option (List ℕ) → Type 0
IsGoodness true cid found = is_found (found_as cid found) ≡ true
IsGoodness false cid found = IsNoBlock cid found

-- the blocks that came to the back of those that wait have good offers, wherever P holds
pub record Sorts (P : Map → List Cid → Type 0) (before after : List Cid) : Type 0 where
  pub goods : List Cid
  pub is : after ≡ before ++ goods
  pub good : (map : Map) (kept : List Cid) → P map kept → (c : Cid) → has c goods ≡ true
      → is_found (offers_of map c) ≡ true

-- the first that waited was looked at: it came to the back, with a good offer, or to the missing or bad ones
pub record SortsFirst (offers : Option Map) (s : ReplicaState) (before after : List Cid) : Type 0 where
  pub first : Cid
  pub rest : List Cid
  pub goods : List Cid
  pub was : before ≡ first ∷ rest
  pub is : after ≡ rest ++ goods
  pub good : (map : Map) (kept : List Cid) → Fetched offers map kept → (old : Durable) (start : List Cid) →
      HasDrained map kept old start s.state → (c : Cid) → has c goods ≡ true → is_found (offers_of map c) ≡ true

-- all that wait have good offers, wherever P holds of what is found
abbrev pub AllGood : (Map → List Cid → Type 0) → ReplicaState → List Cid → Type 0
AllGood P s waiting = (map : Map) (kept : List Cid) → P map kept → (old : Durable) (start : List Cid)
    → HasDrained map kept old start s.state → (c : Cid) → has c waiting ≡ true → is_found (offers_of map c) ≡ true

-- whether so many blocks wait as are enough, where a number is
abbrev pub are_enough : Option ℕ → List Cid → Bool
are_enough None waiting = false
are_enough (Some enough) waiting = nat_le enough (length waiting)

-- turns that came to no end have come to the limit, or to blocks that are enough
abbrev pub HasRested : ℕ → Option ℕ → ReplicaState → Queue → Type 0
HasRested limit enough s q = (limit ≤ count s) ⊎ (are_enough enough q.waiting ≡ true)

-- nothing is missing or bad
abbrev pub NoneStuck : Queue → Type 0
NoneStuck q = (q.missing ≡ []) × (q.bad ≡ [])

abbrev pub NothingStuck : ReplicaState → Type 0
NothingStuck s = NoneStuck (queue_in s.state.run)

-- What a drain of the caller's leads to, where P holds of what is found. No block is lost, and the fuse burns by its
-- commits at most. It ends as idle where nothing waits, and as spent where the limit is reached and all that wait have
-- good offers; in both cases missing and bad hold what their names say.
pub record DrainLeads (end : DrainEnd) (limit : ℕ) (P : Map → List Cid → Type 0) (s new : ReplicaState) : Type 0 where
  pub grows : GoesOn s.state.durable new.state.durable
  pub within : count new ≤ up_to limit s
  pub fuse : FuseGoes (is_keeper end) (commits_between (is_keeper end) s new) s.fuse new.fuse
  pub spent : end ≡ Spent → limit ≤ count new
  pub goes : is_keeper end ≡ false → (map : Map) (kept : List Cid) → P map kept
      → (old : Durable) (start : List Cid) → HasDrained map kept old start s.state →
      HasDrained map kept old start new.state
  pub parts : is_keeper end ≡ false → (map : Map) (kept : List Cid) → P map kept
      → (old : Durable) (start : List Cid) → HasDrained map kept old start s.state →
      PartsFit (offers_of map) (queue_in new.state.run)
  pub breaks : is_keeper end ≡ true → (map : Map) (kept : List Cid) → P map kept
      → (old : Durable) (start : List Cid) → HasDrained map kept old start s.state →
      HasBrokenOff map old start new.state.durable
  pub good : end ≡ Spent → AllGood P s (queue_in new.state.run).waiting
  pub whatever : is_keeper end ≡ false → DrainsOn s new
