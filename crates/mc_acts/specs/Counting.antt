-- Which counts rose over a command.
use Rattle.std.specs.Prelude.{◌≡◌, ℕ, ◌+◌, ◌-◌, ◌^◌, min, nat_lt, not, Bool, cond, List, [], ◌∷◌, ◌++◌, map}
use Rattle.mc_base.specs.declared.counted.Counted as counted
use Rattle.mc_keep.specs.declared.keeper.Keeper as keeper
use Rattle.mc_seats.specs.declared.entry.LineEntry.{LineEntry}
use Rattle.mc_acts.specs.declared.record.Counts.{Counts}
use Rattle.mc_seats.specs.declared.seat.Seat.{Seat}
use Rattle.mc_seats.specs.declared.world.World.{World}
use Rattle.mc_seats.specs.Keepers.{desk_count, keeper_of}

-- whether a count rose, or stands at its last value
abbrev pub rises : ℕ → ℕ → Bool
rises before now = not (nat_lt now (min (before + 1) (2 ^ 64 - 1)))

-- the numbers of those that rose, from this number on
abbrev pub risen_from : ℕ → List ℕ → List ℕ → List ℕ
risen_from number [] news = []
risen_from number (old ∷ olds) [] = []
risen_from number (old ∷ olds) (new ∷ news) = cond (rises old new) (number ∷ []) [] ++ risen_from (number + 1) olds news

-- how often the keeper of each replica has failed, by one of its two counts
abbrev pub keeper_counts : {K D : Type 0} {g : keeper.Ghosts K D} {h : counted.Ghosts K} {i : counted.Ghosts D} →
    (K → ℕ) → List (Seat K D g h i) → List ℕ
keeper_counts {K} {D} {g} {h} {i} count seats = map (λ (seat : Seat K D g h i). count (keeper_of seat)) seats

-- the first numbers of pairs, and the second ones
abbrev pub firsts : List (ℕ × ℕ) → List ℕ
firsts pairs = map (λ (pair : ℕ × ℕ). pair.0) pairs

abbrev pub seconds : List (ℕ × ℕ) → List ℕ
seconds pairs = map (λ (pair : ℕ × ℕ). pair.1) pairs

abbrev pub desk_counts : {D : Type 0} → (D → ℕ) → List (List D) → List ℕ
desk_counts count desks = map (desk_count count) desks

-- the entry of what rose since these counts, in a world that is the same but for its record
abbrev pub entry_since : {K D : Type 0} {g : keeper.Ghosts K D} {h : counted.Ghosts K} {i : counted.Ghosts D}
    → (K → ℕ) → (K → ℕ) → (D → ℕ) → Counts → World K D g h i → LineEntry
entry_since faults own desk_faults before world = record {
  keepers = risen_from 0 (firsts before.keepers.items) (keeper_counts faults world.seats.items);
  desks = risen_from 0 before.desks.items (desk_counts desk_faults world.desks.items);
  own = risen_from 0 (seconds before.keepers.items) (keeper_counts own world.seats.items);
}

-- a world is the same but for its record, which is this
pub record HasRecord {K D : Type 0} {g : keeper.Ghosts K D} {h : counted.Ghosts K} {i : counted.Ghosts D}
    (entries : List LineEntry) (old new : World K D g h i) : Type 0 where
  pub seats_same : new.seats ≡ old.seats
  pub desks_same : new.desks ≡ old.desks
  pub bag_same : new.bag ≡ old.bag
  pub down_same : new.down ≡ old.down
  pub entries_are : new.entries ≡ entries
