-- The first world of a run.
use Rattle.std.specs.Prelude.{◌≡◌, ⊤, List, [], ◌∷◌, Option, None}
use Rattle.mc_model.specs.Kept.{Kept}
use Rattle.mc_seats.specs.Effects.{OpensAs}
use Rattle.mc_seats.specs.Worlds.{Place, WorldState, no_bag}

-- a replica that was opened over what its keeper told, with no fuse and nothing planted
pub record IsStart (told : Option Kept) (place : Place) : Type 0 where
  pub content : place.content ≡ told
  pub no_fuse : place.fuse ≡ None
  pub nothing_planted : place.planted ≡ []
  pub opened : OpensAs told place.run

abbrev pub AreStarts : List (Option Kept) → List Place → Type 0
AreStarts [] [] = ⊤
AreStarts (told ∷ starts) (place ∷ places) = IsStart told place × AreStarts starts places
AreStarts [] (place ∷ places) = ⊥
AreStarts (told ∷ starts) [] = ⊥

-- The first world of a run: each replica runs, over what its keeper told; there is no message and no file, and all links
-- are up.
abbrev pub IsFirst : List (Option Kept) → WorldState → Type 0
IsFirst starts w = AreStarts starts w.places × (w.around ≡ record { bag = no_bag; down = [] })
