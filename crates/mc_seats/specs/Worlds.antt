-- What a world stands for.
use Rattle.std.specs.Prelude.{◌≡◌, ℕ, ◌+◌, ◌==◌, ◌&&◌, ◌||◌, not, Bool, true, false, List, [], ◌∷◌, map, Option, Some}
use Rattle.std.specs.Prelude.{None, IfSome, slice_get, set, unwrap_or}
use Rattle.std.specs.List.{list_any}
use Rattle.mc_base.specs.declared.counted.Counted as counted
use Rattle.mc_model.specs.Kept.{Kept}
use Rattle.mc_model.specs.State.{Running}
use Rattle.mc_keep.specs.declared.fuse.Fuse.{Fuse}
use Rattle.mc_keep.specs.declared.keeper.Keeper as keeper
use Rattle.mc_fetch.specs.declared.plants.Planted.{Planted}
use Rattle.mc_core.specs.Counted.{run_of}
use Rattle.mc_core.specs.Events.{ReplicaState, state_of}
use Rattle.mc_core.specs.Replica.{running_of}
use Rattle.mc_seats.specs.declared.bag.Bag.{Bag}
use Rattle.mc_seats.specs.declared.links.Link.{Link}
use Rattle.mc_seats.specs.declared.seat.Held.{Held}
use Rattle.mc_seats.specs.declared.seat.Held.TheVariants.{Up, Down}
use Rattle.mc_seats.specs.declared.seat.Seat.{Seat}
use Rattle.mc_seats.specs.declared.world.World.{World}

-- one replica of a world: what its keeper tells, where it tells; the fuse of its keeper; what is lost at a stop, where
-- it runs; and the offers that are planted at it
pub record Place : Type 0 where
  pub content : Option Kept
  pub fuse : Option Fuse
  pub run : Option Running
  pub planted : List Planted

-- its state, where the content is told
abbrev pub state_at : Place → Option ReplicaState
state_at place = state_of place.content place.fuse place.run

-- whether it runs, and whether it doesn't
abbrev pub is_up : Option Running → Bool
is_up None = false
is_up (Some run) = true

abbrev pub is_down : Option Running → Bool
is_down None = true
is_down (Some run) = false

-- what holds of one that runs
abbrev pub IfRuns : Option Running → (Running → Type 0) → Type 0
IfRuns None P = ⊥
IfRuns (Some run) P = P run

-- no message and no file
abbrev pub no_bag : Bag
no_bag = record { messages = []; cars = [] }

-- what is around the replicas: all messages ever sent and all files, and the links that are down
pub record Around : Type 0 where
  pub bag : Bag
  pub down : List Link

-- the replicas in order of name, and what is around them
pub record WorldState : Type 0 where
  pub places : List Place
  pub around : Around

-- what holds of the replica with this number
abbrev pub AtPlace : WorldState → ℕ → (Place → Type 0) → Type 0
AtPlace w r P = IfSome (slice_get w.places r) P

-- whether the link is that of these two, in either order
abbrev pub joins : ℕ → ℕ → Link → Bool
joins r other link = (r == link.first && other == link.second) || (r == link.second && other == link.first)

-- whether two replicas, which are not one, have their link up
abbrev pub is_linked : List Link → ℕ → ℕ → Bool
is_linked down r other = not (r == other) && not (list_any (joins r other) down)

-- of the replicas from this number on, whether each is one that r fetches from: it runs, and its link to r is up
abbrev pub peer_row : List Link → ℕ → ℕ → List Place → List Bool
peer_row down r number [] = []
peer_row down r number (place ∷ places) =
    (is_linked down r number && is_up place.run) ∷ peer_row down r (number + 1) places

-- whether the one at this place is marked
abbrev pub is_marked : List Bool → ℕ → Bool
is_marked marks n = unwrap_or (slice_get marks n) false

-- those of a list that are marked in another
abbrev pub picked : {A : Type 0} → List Bool → List A → List A
picked [] xs = []
picked (mark ∷ marks) [] = []
picked (true ∷ marks) (x ∷ xs) = x ∷ picked marks xs
picked (false ∷ marks) (x ∷ xs) = picked marks xs

-- those that r fetches from, in order of name
abbrev pub peers_of : WorldState → ℕ → List Place
peers_of w r = picked (peer_row w.around.down r 0 w.places) w.places

-- a replica of a world
abbrev pub place_with : {K D : Type 0} {g : keeper.Ghosts K D} {h : counted.Ghosts K} {i : counted.Ghosts D}
    → (K → Option Kept) → (K → Option Fuse) → List Planted → Held K D g h i → Place
place_with told fuse planted (Up replica) = record {
  content = told replica.keeper;
  fuse = fuse replica.keeper;
  run = run_of replica.stopped (running_of replica);
  planted = planted;
}
place_with told fuse planted (Down idle) =
    record { content = told idle.keeper; fuse = fuse idle.keeper; run = None; planted = planted }

abbrev pub place_of : {K D : Type 0} {g : keeper.Ghosts K D} {h : counted.Ghosts K} {i : counted.Ghosts D}
    → (K → Option Kept) → (K → Option Fuse) → Seat K D g h i → Place
place_of told fuse seat = place_with told fuse seat.planted seat.held

abbrev pub places_of : {K D : Type 0} {g : keeper.Ghosts K D} {h : counted.Ghosts K} {i : counted.Ghosts D}
    → (K → Option Kept) → (K → Option Fuse) → List (Seat K D g h i) → List Place
places_of told fuse seats = map (place_of told fuse) seats

abbrev pub world_state : {K D : Type 0} {g : keeper.Ghosts K D} {h : counted.Ghosts K} {i : counted.Ghosts D}
    → (K → Option Kept) → (K → Option Fuse) → World K D g h i → WorldState
world_state told fuse world = record {
  places = places_of told fuse world.seats.items;
  around = record { bag = world.bag; down = world.down.items };
}

-- only the thing at r may have changed, and P ties what it was and is
pub record Moved {A : Type 0} (r : ℕ) (olds news : List A) (P : A → A → Type 0) : Type 0 where
  pub old : A
  pub new : A
  pub stands : slice_get olds r ≡ Some old
  pub after : news ≡ set olds r new
  pub holds : P old new

-- the same of one that is named, or of none
abbrev pub MovedAt : {A : Type 0} → Option ℕ → List A → List A → (A → A → Type 0) → Type 0
MovedAt None olds news P = news ≡ olds
MovedAt (Some r) olds news P = Moved r olds news P
