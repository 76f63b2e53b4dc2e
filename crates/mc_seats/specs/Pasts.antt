-- What is kept of the past of each replica of a world.
use Rattle.std.specs.Prelude.{◌≡◌, ℕ, List, length, Option, IfSome, slice_get}
use Rattle.std.specs.List.{AllByRecursion}
use Rattle.mc_model.specs.Kept.{Kept}
use Rattle.mc_past.specs.Pasts.{PastFits}
use Rattle.mc_past.specs.declared.past.Past.{Past}
use Rattle.mc_seats.specs.Worlds.{WorldState, AtPlace}

-- there is as much for each replica, and it fits what its keeper tells
pub record PastsFit (w : WorldState) (pasts : List Past) : Type 0 where
  pub many : length pasts ≡ length w.places
  pub each : (r : ℕ) → AtPlace w r (λ place. IfSome (slice_get pasts r) (PastFits place.content))

-- nothing is kept: these fit whatever is told
abbrev pub IsNew : Past → Type 0
IsNew past = (told : Option Kept) → PastFits told past

abbrev pub AreNew : List Past → Type 0
AreNew pasts = AllByRecursion IsNew pasts
