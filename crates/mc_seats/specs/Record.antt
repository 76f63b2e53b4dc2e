-- The record of the lines: one entry for each.
use Rattle.std.specs.Prelude.{◌≡◌, ◌↔◌, ◌⊎◌, ℕ, true, List, [], ◌∷◌, ◌++◌, Option, Some, None, slice_get}
use Rattle.mc_base.specs.Causes.{Rose}
use Rattle.mc_seats.specs.declared.entry.LineEntry.{LineEntry}
use Rattle.mc_seats.specs.Asks.{is_named}

-- the record grows by an entry of which P holds
pub record Recorded (P : LineEntry → Type 0) (old new : List LineEntry) : Type 0 where
  pub entry : LineEntry
  pub grows : new ≡ old ++ entry ∷ []
  pub holds : P entry

-- a count of the thing at this place rose
abbrev pub RoseAt : {A : Type 0} → (A → ℕ) → Option A → Option A → Type 0
RoseAt count (Some old) (Some new) = Rose (count old) (count new)
RoseAt count None new = ⊥
RoseAt count (Some old) None = ⊥

abbrev pub RoseIn : {A : Type 0} → (A → ℕ) → List A → List A → ℕ → Type 0
RoseIn count olds news r = RoseAt count (slice_get olds r) (slice_get news r)

-- the numbers are exactly those of the things whose counts rose
abbrev pub NamesRisen : {A : Type 0} → (A → ℕ) → List A → List A → List ℕ → Type 0
NamesRisen count olds news numbers = (r : ℕ) → (is_named numbers r ≡ true) ↔ RoseIn count olds news r

-- the record as it was, or with one entry more
abbrev pub IsLonger : List LineEntry → List LineEntry → Type 0
IsLonger old new = (new ≡ old) ⊎ ((entry : LineEntry) × (new ≡ old ++ entry ∷ []))

-- an entry names no keeper and no desk that failed by itself
abbrev pub NamesNone : LineEntry → Type 0
NamesNone entry = (entry.own ≡ []) × (entry.desks ≡ [])
