-- A work or a repair of a replica among others, in its parts.
use Rattle.std.specs.Prelude.{◌≡◌, ◌⊎◌, ⊤, ℕ, ◌+◌, length, Bool, true, false, cond, List, [], ◌∷◌, ◌++◌, map}
use Rattle.std.specs.Prelude.{Some, None, Result, Ok, Err, slice_get, set}
use Rattle.std.specs.List.{AllZip, remove}
use Rattle.mc_base.specs.Causes.{Rose}
use Rattle.mc_base.specs.Told.{Told}
use Rattle.mc_base.specs.declared.counted.Counted as counted
use Rattle.mc_core.specs.Events.{ReplicaState}
use Rattle.mc_drain.specs.Finds.{Finds}
use Rattle.mc_drain.specs.Repairs.{RepairLeads, RepairWants, has_walked}
use Rattle.mc_drain.specs.Works.{WorkLeads, WorkWants}
use Rattle.mc_drain.specs.declared.repairing.Repaired.{Repaired}
use Rattle.mc_drain.specs.declared.working.WorkError.{WorkError}
use Rattle.mc_drain.specs.declared.working.WorkError.TheVariants.{KeeperFault, PeerFault, Stopped, Memory}
use Rattle.mc_drain.specs.declared.working.Worked.{Worked}
use Rattle.mc_keep.specs.Calls.{Members}
use Rattle.mc_keep.specs.Causes.{has_fired}
use Rattle.mc_keep.specs.declared.keeper.Keeper as keeper
use Rattle.mc_lend.specs.declared.site.Site.{Site}
use Rattle.mc_model.specs.State.{Running}
use Rattle.mc_model.specs.Wanted.{Queue}
use Rattle.mc_pull.specs.Pulls.{DeskListGoes, DeskRose}
use Rattle.mc_script.specs.declared.reply.Reply.{Reply}
use Rattle.mc_seats.specs.declared.error.ActError.{ActError}
use Rattle.mc_seats.specs.declared.links.Link.{Link}
use Rattle.mc_seats.specs.declared.seat.Seat.{Seat}
use Rattle.mc_seats.specs.Keepers.{keeper_of}
use Rattle.mc_seats.specs.StepParts.{are_calm, is_peer_at, peers_among}
use Rattle.mc_seats.specs.Words.{KeeperGoes, place}
use Rattle.mc_seats.specs.Works.{Pulled, RepairOn, WorkOn, broken_reply, finds_of, repair_budget}
use Rattle.mc_seats.specs.Worlds.{Place, is_down, peer_row, state_at}

-- what is answered for a work or a repair, where this is for its value
abbrev pub pulled_answer : {T : Type 0} → (T → Reply) → Result T WorkError → Result Reply ActError
pulled_answer says (Ok value) = Ok (says value)
pulled_answer says (Err error) = broken_reply error

-- each list is as long as it was
abbrev pub AreAsLong : {D : Type 0} → List (List D) → List (List D) → Type 0
AreAsLong {D} olds news = AllZip (λ (old : List D) (new : List D). length new ≡ length old) olds news

-- the keeper failed, and the replica has stopped: its fuse fired, or the keeper failed by itself
pub record Broken (own : Type 0) (Leads : ReplicaState → ReplicaState → Type 0) (p q : Place) : Type 0 where
  pub down : q.run ≡ None
  pub silent : p.content ≡ None → q.content ≡ None
  pub planted_same : q.planted ≡ p.planted
  pub why : (has_fired p.fuse q.fuse ≡ true) ⊎ own
  pub told : Told (state_at p) (state_at q) Leads

-- what a work or a repair makes of a replica, by its answer
abbrev pub PullsBy : {T : Type 0} → (Running → Running → Type 0) → (Queue → Type 0)
    → (ReplicaState → ReplicaState → Type 0) → Result T WorkError → Type 0 → Place → Place → Type 0
PullsBy P W Leads (Ok value) own p q = (is_down p.run ≡ false) × Pulled P W Leads p q
PullsBy P W Leads (Err KeeperFault) own p q = (is_down p.run ≡ false) × Broken own Leads p q
PullsBy P W Leads (Err PeerFault) own p q = (is_down p.run ≡ false) × Pulled P W Leads p q
PullsBy P W Leads (Err Stopped) own p q = (is_down p.run ≡ true) × (q ≡ p)
PullsBy P W Leads (Err Memory) own p q = (is_down p.run ≡ false) × Pulled P W Leads p q

abbrev pub WorkBy : ℕ → Result Worked WorkError → Finds → Type 0 → Place → Place → Type 0
WorkBy budget result finds = PullsBy WorkOn (WorkWants result) (WorkLeads budget finds result) result

abbrev pub RepairBy : Result Repaired WorkError → Finds → Type 0 → Place → Place → Type 0
RepairBy result finds =
    PullsBy (RepairOn (has_walked result)) (RepairWants result) (RepairLeads repair_budget finds result) result

module _ {K D : Type 0} (k : Members K D) where
  -- what it leaves of the keeper
  pub record PullsKeeper (failed : Bool) (old new : K) : Type 0 where
    pub goes : KeeperGoes k (cond failed 1 0) 0 old new
    pub named : failed ≡ true → Rose (k.faults old) (k.faults new)

module _ {K D : Type 0} {g : keeper.Ghosts K D} {h : counted.Ghosts K} {i : counted.Ghosts D} (k : Members K D)
    (down : List Link) (r : ℕ) where
  -- how the replica with this number is read, which is in this seat
  pub record IsSite (number : ℕ) (seat : Seat K D g h i) (site : Site K) : Type 0 where
    pub keeper_same : site.keeper.now ≡ keeper_of seat
    pub planted_same : site.planted.now ≡ seat.planted
    pub peer_is : site.peer ≡ is_peer_at down r number (place k seat)

  -- the same of some seats, of which the first has this number
  abbrev pub AreSites : ℕ → List (Seat K D g h i) → List (Site K) → Type 0
  AreSites number [] [] = ⊤
  AreSites number [] (site ∷ sites) = ⊥
  AreSites number (seat ∷ seats) [] = ⊥
  AreSites number (seat ∷ seats) (site ∷ sites) = IsSite number seat site × AreSites (number + 1) seats sites

  -- they are added behind others
  pub record AddsSites (number : ℕ) (seats : List (Seat K D g h i)) (olds news : List (Site K)) : Type 0 where
    pub more : List (Site K)
    pub added : news ≡ olds ++ more
    pub of : AreSites number seats more

  -- the sites of the replicas before r, and of those after it
  pub record SitesOf (before after : List (Seat K D g h i)) (sites : List (Site K)) : Type 0 where
    pub first : List (Site K)
    pub one : AddsSites 0 before [] first
    pub two : AddsSites (r + 1) after first sites

  -- What a work or a repair makes of the replica r among others, and of the desks of these: `By` says what of the
  -- replica, by what is found among its peers.
  pub record PullsAmong (desk_faults : D → ℕ) (By : Finds → Type 0 → Place → Place → Type 0)
      (failed faulted : Bool)
      (olds news : List (Seat K D g h i)) (desks left : List (List D)) : Type 0 where
    pub old : Seat K D g h i
    pub new : Seat K D g h i
    pub stands : slice_get olds r ≡ Some old
    pub after : news ≡ set olds r new
    pub pulls : By (finds_of (peers_among down r (map (place k) olds)))
        (Rose (k.own (keeper_of old)) (k.own (keeper_of new))) (place k old) (place k new)
    pub of_keeper : PullsKeeper k failed (keeper_of old) (keeper_of new)
    pub quiet : Bool
    pub still : are_calm k olds ≡ true → quiet ≡ true
    pub of_desks : AllZip (DeskListGoes k desk_faults quiet) desks left
    pub rose : faulted ≡ true → DeskRose desk_faults (remove (peer_row down r 0 (map (place k) olds)) r) desks left
