-- What the keepers and the desks of a world count, and how a world goes on.
use Rattle.std.specs.Prelude.{◌≡◌, ◌≤◌, ◌⊎◌, ℕ, ◌+◌, ◌-◌, ◌^◌, min, nat_eq, Bool, true, ◌&&◌, cond, List, is_some}
use Rattle.std.specs.List.{AllZip, list_all, sum_by}
use Rattle.mc_base.specs.declared.counted.Counted as counted
use Rattle.mc_fetch.specs.Peers.{SamePlan}
use Rattle.mc_keep.specs.Calls.{Members}
use Rattle.mc_keep.specs.declared.keeper.Keeper as keeper
use Rattle.mc_model.specs.Layouts.{is_two}
use Rattle.mc_model.specs.declared.layout.Layout.{Layout}
use Rattle.mc_seats.specs.declared.seat.Held.{Held}
use Rattle.mc_seats.specs.declared.seat.Held.TheVariants.{Up, Down}
use Rattle.mc_seats.specs.declared.seat.Seat.{Seat}
use Rattle.mc_seats.specs.declared.world.World.{World}

-- the keeper of a replica that runs or doesn't
abbrev pub keeper_in : {K D : Type 0} {g : keeper.Ghosts K D} {h : counted.Ghosts K} {i : counted.Ghosts D} →
    Held K D g h i → K
keeper_in (Up replica) = replica.keeper
keeper_in (Down idle) = idle.keeper

abbrev pub keeper_of : {K D : Type 0} {g : keeper.Ghosts K D} {h : counted.Ghosts K} {i : counted.Ghosts D} →
    Seat K D g h i → K
keeper_of seat = keeper_in seat.held

-- whether the keepers of some replicas have the winner row of each key with a value
abbrev pub are_laid : {K D : Type 0} {g : keeper.Ghosts K D} {h : counted.Ghosts K} {i : counted.Ghosts D} →
    (K → Layout) → List (Seat K D g h i) → Bool
are_laid layout seats = list_all (λ seat. is_two (layout (keeper_of seat))) seats

-- the counts of some desks together, at most the last value of 64 bits
abbrev pub desk_count : {D : Type 0} → (D → ℕ) → List D → ℕ
desk_count count desks = min (sum_by count desks) (2 ^ 64 - 1)

-- what the desks of some replicas have failed
abbrev pub desks_in : {D : Type 0} → (D → ℕ) → List (List D) → ℕ
desks_in desk_faults desks = sum_by (λ list. sum_by desk_faults list) desks

-- each thing's count is at least what it was
abbrev pub AllLater : {A : Type 0} → (A → ℕ) → List A → List A → Type 0
AllLater count olds news = AllZip (λ x y. count x ≤ count y) olds news

-- A count of faults over a step: it never falls. Each fault that is answered is paid by it, or by a fuse that is armed
-- no more, and each fuse that is armed by a command that arms one; or the count stands at the last value of 64 bits.
pub record IsPaid (faults arms : ℕ) (before armed now armed_now : ℕ) : Type 0 where
  pub later : before ≤ now
  pub paid : (before + faults + armed_now ≤ now + armed + arms) ⊎ (2 ^ 64 - 1 ≤ now)

-- what the keepers and desks of a world count, how many fuses are armed, and whether all is calm
pub record Tally : Type 0 where
  pub count : ℕ
  pub armed : ℕ
  pub calm : Bool

module _ {K D : Type 0} (k : Members K D) where
  -- whether a keeper is known never to fail by itself, and has not
  abbrev pub is_calm_keeper : K → Bool
  is_calm_keeper keeper = k.quiet keeper && nat_eq (k.own keeper) 0

  -- the same of a desk
  abbrev pub is_calm_desk : (D → ℕ) → D → Bool
  is_calm_desk desk_faults desk = k.quiet_desk desk && nat_eq (desk_faults desk) 0

  -- What calls leave of a desk: its count never falls, and the reads that are planned to fail are the same.
  pub record DeskStays (desk_faults : D → ℕ) (old new : D) : Type 0 where
    pub later : desk_faults old ≤ desk_faults new
    pub plan : SamePlan (k.desk_schedule old) (k.desk_schedule new)

  -- and of the desks of some replicas: each stands at its place
  pub record DesksStay (desk_faults : D → ℕ) (olds news : List (List D)) : Type 0 where
    pub each : AllZip (AllZip (DeskStays desk_faults)) olds news

  -- 1 where the fuse of a keeper is armed
  abbrev pub armed_at : K → ℕ
  armed_at keeper = cond (is_some (k.fuse keeper)) 1 0

module _ {K D : Type 0} {g : keeper.Ghosts K D} {h : counted.Ghosts K} {i : counted.Ghosts D} (k : Members K D) where
  -- what the keepers of some replicas have failed by themselves, and how many of their fuses are armed
  abbrev pub own_in : List (Seat K D g h i) → ℕ
  own_in seats = sum_by (λ (seat : Seat K D g h i). k.own (keeper_of seat)) seats

  abbrev pub armed_in : List (Seat K D g h i) → ℕ
  armed_in seats = sum_by (λ (seat : Seat K D g h i). armed_at k (keeper_of seat)) seats

module _ {K D : Type 0} {g : keeper.Ghosts K D} {h : counted.Ghosts K} {i : counted.Ghosts D} (k : Members K D)
    (desk_faults : D → ℕ) where
  -- the faults of all keepers by themselves, and of all desks
  abbrev pub counted_in : World K D g h i → ℕ
  counted_in world = own_in k world.seats.items + desks_in desk_faults world.desks.items

  -- whether all keepers and desks of a world are calm
  abbrev pub is_calm : World K D g h i → Bool
  is_calm world = list_all (λ (seat : Seat K D g h i). is_calm_keeper k (keeper_of seat)) world.seats.items
      && list_all (λ (list : List D). list_all (is_calm_desk k desk_faults) list) world.desks.items

  -- What every call leaves of a world: each fault that it answers is paid, and what is calm stays calm; no count of a
  -- keeper by itself, or of a replica's desks together, falls; and each desk stands at its place.
  pub record WorldGoes (faults arms : ℕ) (old new : World K D g h i) : Type 0 where
    pub paid : IsPaid faults arms (counted_in old) (armed_in k old.seats.items) (counted_in new)
        (armed_in k new.seats.items)
    pub calm : is_calm old ≡ true → is_calm new ≡ true
    pub own_later : AllLater (λ (seat : Seat K D g h i). k.own (keeper_of seat)) old.seats.items new.seats.items
    pub desks_later : AllLater (λ (list : List D). sum_by desk_faults list) old.desks.items new.desks.items
    pub desks_stay : DesksStay k desk_faults old.desks.items new.desks.items
