-- What the calls of a drain of the wanted set lead to, as facts about two states of a replica.
use Rattle.std.specs.Prelude.{◌≡◌, ◌≤◌, ◌+◌, ◌-◌, ◌*◌, ⊤, ℕ, Bool, true, false, cond, ◌&&◌, ◌||◌, List, [], ◌∷◌, ◌++◌}
use Rattle.std.specs.Prelude.{length, Option, Some, None}
use Rattle.mc_base.specs.declared.cid.Cid.{Cid}
use Rattle.mc_model.specs.Drain.{PartsFit, is_in_order, is_new, offered_links}
use Rattle.mc_model.specs.Draining.{HasDrained, bytes_in, came, offers_of, queue_in}
use Rattle.mc_model.specs.Events.{Event, GoesOn, Process}
use Rattle.mc_model.specs.Found.{is_found}
use Rattle.mc_model.specs.Graph.{has, in_graph}
use Rattle.mc_model.specs.State.{Durable}
use Rattle.mc_fetch.specs.Fits.{Map}
use Rattle.mc_keep.specs.declared.fuse.Fuse.{Fuse}
use Rattle.mc_core.specs.Events.{ReplicaState}

-- each stored block has the bytes that are found for it
abbrev pub StoredIn : Map → Durable → Type 0
StoredIn map durable = (c : Cid) (bytes : List ℕ) → bytes_in durable.graph c ≡ Some bytes → map c ≡ Some bytes

-- whether a drain may have left the block stored where it broke off: it was before, or it is added, or it has a good
-- offer, and was wanted at the start or is linked by a block added
abbrev pub may_be_left : Map → Durable → List Cid → List Cid → Cid → Bool
may_be_left map old start added c =
    in_graph old.graph c
    || (has c added || ((has c start || has c (offered_links (offers_of map) added)) && is_found (offers_of map c)))

-- From the durable state `old`, where `start` was wanted, a drain has left this behind, where a fault of the keeper
-- broke it off. Nothing is wanted any more.
pub record HasBrokenOff (map : Map) (old : Durable) (start : List Cid) (now : Durable) : Type 0 where
  -- the added blocks follow those that were processed
  pub grown : now.order ≡ old.order ++ came old.order now.order
  -- each has a good offer, and was not processed
  pub good : (c : Cid) → has c (came old.order now.order) ≡ true → is_new (offers_of map) old.order c ≡ true
  -- each was wanted at the start, or is linked by one before it
  pub in_order : is_in_order (offers_of map) start [] (came old.order now.order) ≡ true
  -- each stored block has the bytes that are found
  pub stored : (c : Cid) (bytes : List ℕ) → bytes_in now.graph c ≡ Some bytes → map c ≡ Some bytes
  -- nothing was stored but what the drain takes
  pub taken : (c : Cid) → in_graph now.graph c ≡ true → may_be_left map old start (came old.order now.order) c ≡ true

-- how many blocks an event processes, and all of some
abbrev pub processes : Event → ℕ
processes (Process cids) = length cids
processes event = 0

abbrev pub all_processes : List Event → ℕ
all_processes [] = 0
all_processes (event ∷ events) = processes event + all_processes events

-- how many blocks are processed
abbrev pub count : ReplicaState → ℕ
count s = length s.state.durable.order

-- how many may be processed where so many are, and a limit is set
abbrev pub up_to : ℕ → ReplicaState → ℕ
up_to limit s = count s + (limit - count s)

-- What some commits, at most so many, leave of a fuse, by whether the last call failed: it burns by as many as there
-- were, or one of them fired it, which is that of the call that failed.
abbrev pub FuseGoes : Bool → ℕ → Option Fuse → Option Fuse → Type 0
FuseGoes failed most None new = new ≡ None
FuseGoes failed most (Some old) None = (failed ≡ true) × (old.commit ≤ most)
FuseGoes failed most (Some old) (Some new) =
    (new.after ≡ old.after) × (new.commit ≤ old.commit) × (old.commit ≤ new.commit + most)

-- how many commits there may be between two states: two for each block that came, and two for a call that failed
abbrev pub commits_between : Bool → ReplicaState → ReplicaState → ℕ
commits_between failed s new = 2 * (count new - count s) + cond failed 2 0

-- Whatever is found: a drain that had come to the first state has come to the second, where what is found are the bytes
-- that are stored at last.
abbrev pub DrainsOn : ReplicaState → ReplicaState → Type 0
DrainsOn s new = (map : Map) (kept : List Cid) → StoredIn map new.state.durable → (old : Durable) (start : List Cid)
    → HasDrained map kept old start s.state → HasDrained map kept old start new.state

-- What some calls lead to, of which the last alone may have failed, and did so where `failed` is true: no block is
-- lost, no more than `most` are processed then, and the fuse burns by their commits at most; and where P holds of what
-- is found and of the blocks that were stored at a drain's beginning, a drain that had come to the first state has come
-- to the second, or has broken off there; and where R holds, missing and bad go on holding what their names say.
-- Whatever is found, a drain goes on.
pub record LeadsBy (failed : Bool) (most : ℕ) (P R : Map → List Cid → Type 0) (s new : ReplicaState) : Type 0 where
  pub grows : GoesOn s.state.durable new.state.durable
  pub few : count new ≤ most
  pub fuse : FuseGoes failed (commits_between failed s new) s.fuse new.fuse
  pub goes : failed ≡ false → (map : Map) (kept : List Cid) → P map kept → (old : Durable) (start : List Cid)
      → HasDrained map kept old start s.state → HasDrained map kept old start new.state
  pub parts : failed ≡ false → (map : Map) (kept : List Cid) → R map kept → (old : Durable) (start : List Cid)
      → HasDrained map kept old start s.state → PartsFit (offers_of map) (queue_in s.state.run)
      → PartsFit (offers_of map) (queue_in new.state.run)
  pub breaks : failed ≡ true → (map : Map) (kept : List Cid) → P map kept → (old : Durable) (start : List Cid)
      → HasDrained map kept old start s.state → HasBrokenOff map old start new.state.durable
  pub whatever : failed ≡ false → DrainsOn s new

-- the same where both are one
abbrev pub Leads : Bool → ℕ → (Map → List Cid → Type 0) → ReplicaState → ReplicaState → Type 0
Leads failed most P s new = LeadsBy failed most P P s new

-- whatever is found
abbrev pub Always : Map → List Cid → Type 0
Always map kept = ⊤

-- nothing that is found
abbrev pub Never : Map → List Cid → Type 0
Never map kept = ⊥
