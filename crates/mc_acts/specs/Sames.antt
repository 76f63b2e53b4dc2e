-- How two replicas are compared, block by block.
use Rattle.std.specs.Prelude.{◌≡◌, ◌≤◌, ◌⊎◌, ◌&&◌, ℕ, Bool, true, false, List, Option, Some, None, Result, Ok, Err}
use Rattle.std.specs.Prelude.{IfSome, slice_get, unwrap_or}
use Rattle.std.specs.List.{AllZip, list_all}
use Rattle.std.specs.Option.{option_and_then, option_map}
use Rattle.mc_base.specs.Causes.{Rose}
use Rattle.mc_base.specs.declared.cid.Cid.{Cid}
use Rattle.mc_base.specs.declared.counted.Counted as counted
use Rattle.mc_model.specs.Graph.{has}
use Rattle.mc_model.specs.Kept.{Kept}
use Rattle.mc_keep.specs.Calls.{Members}
use Rattle.mc_keep.specs.declared.fuse.Fuse.{Fuse}
use Rattle.mc_keep.specs.declared.keeper.Keeper as keeper
use Rattle.mc_acts.specs.declared.sames.CompareError.{CompareError}
use Rattle.mc_acts.specs.declared.sames.CompareError.TheVariants.{Fault, TooMany}
use Rattle.mc_seats.specs.declared.seat.Seat.{Seat}
use Rattle.mc_seats.specs.Keepers.{keeper_of}
use Rattle.mc_seats.specs.Words.{KeeperGoes, place}
use Rattle.mc_seats.specs.Worlds.{Moved, is_up, place_of}

-- P ties two contents, where both are told
abbrev pub IfBoth : Option Kept → Option Kept → (Kept → Kept → Type 0) → Type 0
IfBoth first second P = IfSome first (λ s. IfSome second (λ t. P s t))

-- whether the block at this place of a list is in another
abbrev pub is_in : Option Cid → List Cid → Bool
is_in None others = false
is_in (Some c) others = has c others

-- whether all of a list are in another
abbrev pub all_in : List Cid → List Cid → Bool
all_in order others = list_all (λ c. has c others) order

module _ {K D : Type 0} {g : keeper.Ghosts K D} {h : counted.Ghosts K} {i : counted.Ghosts D} where
  -- whether a replica runs
  abbrev pub is_up_seat : (K → Option Kept) → (K → Option Fuse) → Seat K D g h i → Bool
  is_up_seat told fuse seat = is_up (place_of told fuse seat).run

  abbrev pub up_at : (K → Option Kept) → (K → Option Fuse) → List (Seat K D g h i) → ℕ → Bool
  up_at told fuse seats r = unwrap_or (option_map (is_up_seat told fuse) (slice_get seats r)) false

  -- whether two do
  abbrev pub both_up : (K → Option Kept) → (K → Option Fuse) → List (Seat K D g h i) → ℕ → ℕ → Bool
  both_up told fuse seats r other = up_at told fuse seats r && up_at told fuse seats other

  abbrev pub IsUpAt : (K → Option Kept) → (K → Option Fuse) → List (Seat K D g h i) → ℕ → Type 0
  IsUpAt told fuse seats r = IfSome (slice_get seats r) (λ seat. is_up_seat told fuse seat ≡ true)

  -- what is told of the one with this number
  abbrev pub content_at : (K → Option Kept) → List (Seat K D g h i) → ℕ → Option Kept
  content_at told seats r = option_and_then (λ (seat : Seat K D g h i). told (keeper_of seat)) (slice_get seats r)

  module _ (k : Members K D) where
    -- a replica was read
    pub record SeatStays (x y : Seat K D g h i) : Type 0 where
      pub same : place k y ≡ place k x
      pub later : k.faults (keeper_of x) ≤ k.faults (keeper_of y)
      pub goes : KeeperGoes k 0 0 (keeper_of x) (keeper_of y)

    -- its keeper failed in a read
    pub record SeatFails (x y : Seat K D g h i) : Type 0 where
      pub falls : place k y ≡ record (place k x) { run = None }
      pub rose : Rose (k.faults (keeper_of x)) (k.faults (keeper_of y))
      pub own_rose : Rose (k.own (keeper_of x)) (k.own (keeper_of y))
      pub goes : KeeperGoes k 1 0 (keeper_of x) (keeper_of y)

    abbrev pub AllStay : List (Seat K D g h i) → List (Seat K D g h i) → Type 0
    AllStay = AllZip SeatStays

    -- some were read, and then a keeper failed
    pub record FailsAt (at : ℕ) (olds news : List (Seat K D g h i)) : Type 0 where
      pub mid : List (Seat K D g h i)
      pub stay : AllStay olds mid
      pub falls : Moved at mid news SeatFails

    -- what a comparison of two replicas leaves
    abbrev pub Compares : {T : Type 0} → ℕ → ℕ → Result T CompareError → List (Seat K D g h i) →
        List (Seat K D g h i) → Type 0
    Compares r other (Ok value) olds news = AllStay olds news
    Compares r other (Err TooMany) olds news = AllStay olds news
    Compares r other (Err (Fault at)) olds news = ((at ≡ r) ⊎ (at ≡ other)) × FailsAt at olds news
