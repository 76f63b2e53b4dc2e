-- The workers of a round, and what they leave of their fetches.
use Rattle.std.specs.Prelude.{◌≡◌, ◌⊎◌, ℕ, Bool, List, [], ◌∷◌, Option, None}
use Rattle.mc_base.specs.Causes.{Rose}
use Rattle.mc_base.specs.declared.cid.Cid.{Cid}
use Rattle.mc_fetch.specs.Calls.{Asks, Members}
use Rattle.mc_fetch.specs.Fits.{Map}
use Rattle.mc_fetch.specs.Offers.{Offered, found_by}
use Rattle.mc_drain.specs.Finds.{Finds, finds_by}

-- a hand that has not worked: its seat is one of the node's, keeps to the node's limit and has no job out, and its
-- fetch fits
pub record IsHired (Owned Under Sealed : Type 0) (out : Option Cid) (Fits : Type 0) : Type 0 where
  pub own : Owned
  pub under : Under
  pub sealed : Sealed
  pub idle : out ≡ None
  pub fits : Fits

-- a hand that has worked: its seat is one of the node's and has no job out, and its fetch was asked
pub record HasRun (Owned : Type 0) (out : Option Cid) (Asked : Type 0) : Type 0 where
  pub own : Owned
  pub idle : out ≡ None
  pub asked : Asked

-- a fetch that was asked, and may have failed at last
pub record FetchLeft {F : Type 0} (f : Members F) (before after : F) : Type 0 where
  pub failed : Bool
  pub asked : Asks f failed before after

-- the count of one of them rose
abbrev pub SomeRose : {F : Type 0} → (F → ℕ) → List F → List F → Type 0
SomeRose faults [] after = ⊥
SomeRose faults (x ∷ before) [] = ⊥
SomeRose faults (x ∷ before) (y ∷ after) = Rose (faults x) (faults y) ⊎ SomeRose faults before after

-- what the first of them finds, where it tells
abbrev pub found_first : {F : Type 0} → (F → Option Offered) → List F → Option Map
found_first offers [] = None
found_first offers (fetch ∷ fetches) = found_by (offers fetch)

-- and what its leading places come to, which it finds whatever the others answer
abbrev pub first_finds : {F : Type 0} → (F → Option Offered) → (F → Offered) → List F → Finds
first_finds offers leading [] = record { all = None; surely = λ cid. None }
first_finds offers leading (fetch ∷ fetches) = finds_by (offers fetch) (leading fetch)
