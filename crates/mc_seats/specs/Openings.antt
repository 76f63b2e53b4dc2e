-- How a world is made of its parts, and what is handed back.
use Rattle.std.specs.Prelude.{◌≡◌, ◌≤◌, ⊤, ℕ, ◌+◌, Bool, true, false, List, [], ◌∷◌, length, Option, None}
use Rattle.std.specs.Prelude.{Result, Ok, Err, IfSome}
use Rattle.std.specs.List.{AllZip, list_all, sum_by}
use Rattle.mc_base.specs.Causes.{Rose}
use Rattle.mc_base.specs.declared.counted.Counted as counted
use Rattle.mc_model.specs.Kept.{Kept}
use Rattle.mc_model.specs.State.{HasSoundMark}
use Rattle.mc_keep.specs.Calls.{Members}
use Rattle.mc_keep.specs.declared.fuse.Fuse.{Fuse}
use Rattle.mc_keep.specs.declared.keeper.Keeper as keeper
use Rattle.mc_core.specs.declared.replica.OpenCause.{OpenCause}
use Rattle.mc_core.specs.declared.replica.OpenCause.TheVariants.{KeeperFault}
use Rattle.mc_core.specs.declared.replica.Replica.{Replica}
use Rattle.mc_core.specs.Openings.{is_fault_cause}
use Rattle.mc_seats.specs.declared.seat.Held.TheVariants.{Up}
use Rattle.mc_seats.specs.declared.seat.Seat.{Seat}
use Rattle.mc_seats.specs.declared.world.Part.{Part}
use Rattle.mc_seats.specs.Desked.{AreDesksOf, desks_each}
use Rattle.mc_seats.specs.Keepers.{is_calm_desk, is_calm_keeper, keeper_of}
use Rattle.mc_seats.specs.Starts.{IsStart}
use Rattle.mc_seats.specs.Words.{place}
use Rattle.mc_seats.specs.Worlds.{place_with}

-- what the keepers of some parts tell
abbrev pub starts_of : {K D : Type 0} → (K → Option Kept) → List (Part K D) → List (Option Kept)
starts_of told [] = []
starts_of told (part ∷ parts) = told part.keeper ∷ starts_of told parts

-- a part that a replica may be opened of: its keeper has a sound mark and no fuse, and it has no desks
pub record IsFresh {K D : Type 0} (told : K → Option Kept) (fuse : K → Option Fuse) (part : Part K D) : Type 0 where
  pub marked : IfSome (told part.keeper) HasSoundMark
  pub no_fuse : fuse part.keeper ≡ None
  pub no_desks : part.desks ≡ []

abbrev pub AreFresh : {K D : Type 0} → (K → Option Kept) → (K → Option Fuse) → List (Part K D) → Type 0
AreFresh told fuse [] = ⊤
AreFresh told fuse (part ∷ parts) = IsFresh told fuse part × AreFresh told fuse parts

-- the parts of some replicas and their desks, in order
abbrev pub parts_of : {K D : Type 0} {g : keeper.Ghosts K D} {h : counted.Ghosts K} {i : counted.Ghosts D}
    → List (Seat K D g h i) → List (List D) → List (Part K D)
parts_of (seat ∷ seats) (desks ∷ more) = record { keeper = keeper_of seat; desks = desks } ∷ parts_of seats more
parts_of seats desks = []

-- whether a keeper failed where a replica was to be opened
abbrev pub is_open_fault : {T : Type 0} → Result T OpenCause → Bool
is_open_fault (Ok value) = false
is_open_fault (Err cause) = is_fault_cause cause

module _ {K D : Type 0} (k : Members K D) where
  -- what the keepers of some parts have failed by themselves
  abbrev pub owns_of : List (Part K D) → ℕ
  owns_of parts = sum_by (λ (part : Part K D). k.own part.keeper) parts

  -- whether they are all known never to fail by themselves, and have not
  abbrev pub are_calm : List (Part K D) → Bool
  are_calm parts = list_all (λ (part : Part K D). is_calm_keeper k part.keeper) parts

  -- each replica has the desks that its keeper made
  abbrev pub HaveOwnDesks : List (Part K D) → List (List D) → Type 0
  HaveOwnDesks parts desks =
      AllZip (λ (part : Part K D) (list : List D). AreDesksOf k.desk_schedule (k.schedule part.keeper) list) parts desks

  -- A keeper of which no replica was opened, for this cause: it tells what it told, has no fuse, and has failed by
  -- itself where that is the cause.
  pub record IsBack (cause : OpenCause) (old new : K) : Type 0 where
    pub told_same : k.told new ≡ k.told old
    pub no_fuse : k.fuse new ≡ None
    pub own_later : k.own old ≤ k.own new
    pub rose : cause ≡ KeeperFault → Rose (k.own old) (k.own new)
    pub calm : is_calm_keeper k old ≡ true → cause ≡ KeeperFault → ⊥

  -- A part that is handed back: its keeper tells what it told, has no fuse, and its own count has not fallen; the desks
  -- that it made are with it.
  pub record IsLeft (part left : Part K D) : Type 0 where
    pub told_same : k.told left.keeper ≡ k.told part.keeper
    pub no_fuse : k.fuse left.keeper ≡ None
    pub own_later : k.own part.keeper ≤ k.own left.keeper
    pub few : length left.desks ≤ desks_each
    pub of_keeper : AreDesksOf k.desk_schedule (k.schedule part.keeper) left.desks

  abbrev pub AreLeft : List (Part K D) → List (Part K D) → Type 0
  AreLeft [] [] = ⊤
  AreLeft (part ∷ parts) (left ∷ lefts) = IsLeft part left × AreLeft parts lefts
  AreLeft parts lefts = ⊥

  -- The parts of which no world was made, for this cause.
  pub record AreRefused (cause : OpenCause) (parts lefts : List (Part K D)) : Type 0 where
    pub left : AreLeft parts lefts
    pub rose : cause ≡ KeeperFault → Rose (owns_of parts) (owns_of lefts)
    pub calm : are_calm parts ≡ true → cause ≡ KeeperFault → ⊥

  module _ (desk_faults : D → ℕ) where
    -- what the keepers and desks of some parts have failed by themselves
    abbrev pub counted_of : List (Part K D) → ℕ
    counted_of parts = sum_by (λ (part : Part K D). k.own part.keeper + sum_by desk_faults part.desks) parts

    -- some desks that have not failed, of a keeper that was this
    pub record AreNewDesks (keeper : K) (desks : List D) : Type 0 where
      pub no_faults : sum_by desk_faults desks ≡ 0
      pub calm : k.quiet keeper ≡ true → list_all (is_calm_desk k desk_faults) desks ≡ true

module _ {K D : Type 0} {g : keeper.Ghosts K D} {h : counted.Ghosts K} {i : counted.Ghosts D} (k : Members K D) where
  -- Desks were made of a replica: its keeper tells the same, with the same fuse, and the replica is as before, where no
  -- call has failed.
  pub record MakesDesks (failed : Bool) (old new : Replica K D g h i) : Type 0 where
    pub told_same : k.told new.keeper ≡ k.told old.keeper
    pub fuse_same : k.fuse new.keeper ≡ k.fuse old.keeper
    pub own_later : k.own old.keeper ≤ k.own new.keeper
    pub own_still : failed ≡ false → k.own new.keeper ≡ k.own old.keeper
    pub own_rose : k.fuse old.keeper ≡ None → failed ≡ true → Rose (k.own old.keeper) (k.own new.keeper)
    pub still_quiet : k.quiet old.keeper ≡ true → k.quiet new.keeper ≡ true
    pub calm : k.fuse old.keeper ≡ None → k.quiet old.keeper ≡ true → failed ≡ false
    pub stays : failed ≡ false → place_with k.told k.fuse [] (Up new) ≡ place_with k.told k.fuse [] (Up old)

  module _ (desk_faults : D → ℕ) where
    -- A replica in its seat, and its desks, which have not failed.
    pub record IsSeated (replica : Replica K D g h i) (seat : Seat K D g h i) (desks : List D) : Type 0 where
      pub place_same : place k seat ≡ place_with k.told k.fuse [] (Up replica)
      pub told_same : k.told (keeper_of seat) ≡ k.told replica.keeper
      pub fuse_same : k.fuse (keeper_of seat) ≡ k.fuse replica.keeper
      pub own_same : k.own (keeper_of seat) ≡ k.own replica.keeper
      pub still_quiet : k.quiet replica.keeper ≡ true → k.quiet (keeper_of seat) ≡ true
      pub new_desks : AreNewDesks k desk_faults replica.keeper desks
      pub of_keeper : AreDesksOf k.desk_schedule (k.schedule replica.keeper) desks
      pub many : length desks ≡ desks_each

    -- the same of one that was opened of a part
    pub record IsOpened (part : Part K D) (seat : Seat K D g h i) (desks : List D) : Type 0 where
      pub start : IsStart (k.told part.keeper) (place k seat)
      pub told_same : k.told (keeper_of seat) ≡ k.told part.keeper
      pub no_fuse : k.fuse (keeper_of seat) ≡ None
      pub own_same : k.own (keeper_of seat) ≡ k.own part.keeper
      pub still_quiet : k.quiet part.keeper ≡ true → k.quiet (keeper_of seat) ≡ true
      pub new_desks : AreNewDesks k desk_faults part.keeper desks
      pub of_keeper : AreDesksOf k.desk_schedule (k.schedule part.keeper) desks
      pub many : length desks ≡ desks_each

    -- the same of all the parts
    abbrev pub AreOpened : List (Part K D) → List (Seat K D g h i) → List (List D) → Type 0
    AreOpened [] [] [] = ⊤
    AreOpened (part ∷ parts) (seat ∷ seats) (desks ∷ more) = IsOpened part seat desks × AreOpened parts seats more
    AreOpened parts seats desks = ⊥
