-- What is kept of the past of one replica of a world, and one put in its place.
use Rattle.std.proofs.Common.{◌≡◌, ◌<◌, get_or, ℕ, zero, suc, List, [], ◌∷◌, Option, Some, length, map, set, sym, subst, ap, ◌∙◌}
use Rattle.std.specs.Prelude.{IfSome, slice_get}
use Rattle.std.specs.Option.{option_map}
use Rattle.std.proofs.lemmas.List.{length-map, length-set}
use Rattle.std.proofs.lemmas.Option.{slice_get-map, slice_get_read}
use Rattle.mc_past.specs.Pasts.{PastFits}
use Rattle.mc_past.specs.declared.past.Past.{Past}
use Rattle.mc_seats.specs.Pasts.{PastsFit}
use Rattle.mc_seats.specs.Worlds.{Around, Place, WorldState}

-- the world of these replicas
abbrev world_of : {A : Type 0} → (A → Place) → List A → Around → WorldState
world_of f xs around = record { places = map f xs; around = around }

there : {A : Type 0} (f : A → Place) (xs : List A) (at : ℕ) (x : A) → slice_get xs at ≡ Some x → slice_get (map f xs) at ≡ Some (f x)
there f xs at x stands = slice_get-map f xs at ∙ ap (option_map f) stands

set_each : (places : List Place) (pasts : List Past) (at r : ℕ) (past : Past) → IfSome (slice_get places at) (λ place. PastFits place.content past)
    → IfSome (slice_get places r) (λ place. IfSome (slice_get pasts r) (PastFits place.content)) → IfSome (slice_get places r) (λ place. IfSome (slice_get (set pasts at past) r) (PastFits place.content))
set_each [] pasts at r past is fits = tt
set_each (place ∷ places) [] at r past is fits = fits
set_each (place ∷ places) (old ∷ pasts) zero zero past is fits = is
set_each (place ∷ places) (old ∷ pasts) zero (suc r) past is fits = fits
set_each (place ∷ places) (old ∷ pasts) (suc at) zero past is fits = fits
set_each (place ∷ places) (old ∷ pasts) (suc at) (suc r) past is fits = set_each places pasts at r past is fits

module _ {A : Type 0} (f : A → Place) (xs : List A) (around : Around) (pasts : List Past) (at : ℕ) (x : A) (past : Past) (stands : slice_get xs at ≡ Some x) (fits : PastsFit (world_of f xs around) pasts) where
  pub fits_there : at < length xs → past ≡ get_or pasts at past → PastFits (f x).content past
  fits_there within read =
      subst (λ (o : Option Past). IfSome o (PastFits (f x).content)) (slice_get_read pasts (length xs) at past (sym (fits.many ∙ length-map xs f)) within read)
      (subst (λ (o : Option Place). IfSome o (λ place. IfSome (slice_get pasts at) (PastFits place.content))) (there f xs at x stands) (fits.each at))

  pub fits_set : PastFits (f x).content past → PastsFit (world_of f xs around) (set pasts at past)
  fits_set is = record {
    many = length-set pasts at past ∙ fits.many;
    each = λ r. set_each (map f xs) pasts at r past (subst (λ (o : Option Place). IfSome o (λ place. PastFits place.content past)) (sym (there f xs at x stands)) is) (fits.each r);
  }
