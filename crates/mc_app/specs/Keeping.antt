-- How parts are given back to the maker of their keepers.
use Rattle.std.specs.Prelude.{◌≡◌, ◌≤◌, ◌⊎◌, List, [], ◌∷◌, length, map, Option}
use Rattle.std.specs.List.{AllByRecursion, AllZip}
use Rattle.mc_keep.specs.Calls.{Members}
use Rattle.mc_keep.specs.Plan.{Schedule}
use Rattle.mc_model.specs.Kept.{Kept}
use Rattle.mc_keep.specs.declared.fused.Fused.{Fused}
use Rattle.mc_app.specs.Outcome.{contents_of}
use Rattle.mc_app.specs.declared.status.Status.{Status}
use Rattle.mc_app.specs.declared.status.Status.TheVariants.{Memory}
use Rattle.mc_seats.specs.declared.world.Part.{Part}
use Rattle.mc_seats.specs.Desked.{AreDesksOf, desks_each}
use Rattle.mc_seats.specs.Openings.{starts_of}
use Rattle.mc_seats.specs.Starts.{IsFirst}
use Rattle.mc_seats.specs.Worlds.{WorldState}

-- the keepers of some parts were taken back, in order, each with its desks
abbrev pub TakesParts : {M K D : Type 0} → (M → K → List D → M → Type 0) → M → List (Part (Fused K) D) → M → Type 0
TakesParts takes before [] last = last ≡ before
TakesParts {M} takes before (part ∷ parts) last =
    (after : M) × takes before part.keeper.keeper part.desks after × TakesParts takes after parts last

-- the keepers of some parts, without their fuses, and the desks of each
abbrev pub made_of : {K D : Type 0} → List (Part (Fused K) D) → List K
made_of {K} {D} parts = map (λ (part : Part (Fused K) D). part.keeper.keeper) parts

abbrev pub desks_of : {K D : Type 0} → List (Part K D) → List (List D)
desks_of {K} {D} parts = map (λ (part : Part K D). part.desks) parts

-- each part has all its desks
pub record HaveAll {K D : Type 0} (parts : List (Part K D)) : Type 0 where
  pub each : AllByRecursion (λ (part : Part K D). length part.desks ≡ desks_each) parts

-- the keepers of some parts are planned for as those without their fuses are
pub record ArePlain {K D : Type 0} (planned : Fused K → Option Schedule) (schedule : K → Option Schedule)
    (parts : List (Part (Fused K) D)) : Type 0 where
  pub each : AllByRecursion (λ (part : Part (Fused K) D). planned part.keeper ≡ schedule part.keeper.keeper) parts

module _ {K D : Type 0} (k : Members K D) where
  -- one part comes back for each, with desks that its keeper made, of which it has no more than it may
  abbrev pub IsOwnPart : Part K D → Part K D → Type 0
  IsOwnPart part back =
      (length back.desks ≤ desks_each) × AreDesksOf k.desk_schedule (k.schedule part.keeper) back.desks

  pub record AreOwnParts (parts backs : List (Part K D)) : Type 0 where
    pub each : AllZip IsOwnPart parts backs

-- the keepers of these parts tell what the last world has, and each has all its desks; or memory was wanting to make a
-- world, and they tell what those told that it was to be made of
abbrev pub EndsParts : {K D : Type 0} → (K → Option Kept) → Status → List (Option Kept) → List (Part K D) → WorldState
    → Type 0
EndsParts told status starts parts w = ((contents_of w ≡ starts_of told parts) × HaveAll parts)
    ⊎ ((status ≡ Memory) × IsFirst starts w × (starts_of told parts ≡ starts))
