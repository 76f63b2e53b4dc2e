-- Calls at their places in a log.
use Rattle.std.specs.Prelude.{⊤, ◌+◌, ◌<◌, ◌≤◌, ℕ, Bool, true, false, List, [], ◌∷◌}

-- P holds of each item
abbrev pub Each : {A : Type 0} → (A → Type 0) → List A → Type 0
Each P [] = ⊤
Each P (x ∷ xs) = P x × Each P xs

-- a call at its place in a log: it is over the entries before the place, and adds the entry there, or none
pub record Took (C : Type 0) : Type 0 where
  pub call : C
  pub at : ℕ
  pub adds : Bool

abbrev pub width : Bool → ℕ
width true = 1
width false = 0

abbrev pub places_if : Bool → ℕ → List ℕ → List ℕ
places_if true p ps = p ∷ ps
places_if false p ps = ps

module _ {C : Type 0} where
  -- how many entries are there after the call
  abbrev pub next_of : Took C → ℕ
  next_of t = t.at + width t.adds

  -- each is taken after the one before it, and below this place
  abbrev pub IsRising : ℕ → ℕ → List (Took C) → Type 0
  IsRising lo hi [] = ⊤
  IsRising lo hi (t ∷ ts) = (lo ≤ t.at) × (t.at < hi) × IsRising (next_of t) hi ts

  -- the places that these calls add an entry at
  abbrev pub made_places : List (Took C) → List ℕ
  made_places [] = []
  made_places (t ∷ ts) = places_if t.adds t.at (made_places ts)
