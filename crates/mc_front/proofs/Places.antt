-- A place in a list is found exactly where an item passes.
use Rattle.std.proofs.Common.{◌≡◌, ℕ, suc, ◌+◌, Bool, true, false, not, cond, List, [], ◌∷◌, ◌||◌, Option, Some, None, refl, ap, ◌∙◌, arith, length}
use Rattle.std.specs.Prelude.{IfSome, is_some, nat_lt}
use Rattle.std.proofs.lemmas.Bool.Decides.{nat_tests}
use Rattle.std.specs.List.{list_any, position, position_or_len}
use Rattle.mc_base.specs.declared.cid.Cid.{Cid}
use Rattle.mc_model.specs.Front.{same_cid, is_among}
use Rattle.mc_model.specs.Kept.{Kept}

place_below : {X : Type 0} (test : X → Bool) (xs : List X) → nat_lt (position_or_len test xs) (length xs) ≡ list_any test xs
place_below test [] = refl
place_below test (x ∷ xs) =
    elim (test x) as (λ t. nat_lt (cond (not t) (1 + position_or_len test xs) 0) (length (x ∷ xs)) ≡ (t || list_any test xs)) [
      | true ↦ low (length xs)
      | false ↦ up (position_or_len test xs) (length xs) ∙ place_below test xs
    ]
  where
    low : (n : ℕ) → nat_lt 0 (suc n) ≡ true
    low n = grind (arith, nat_tests)

    up : (m n : ℕ) → nat_lt (1 + m) (suc n) ≡ nat_lt m n
    up m n = grind (arith, nat_tests)

some_there : (t : Bool) (n : ℕ) → is_some (cond t (Some n) None) ≡ t
some_there true n = refl
some_there false n = refl

place_there : {X : Type 0} (test : X → Bool) (xs : List X) → is_some (position test xs) ≡ list_any test xs
place_there test xs = some_there (nat_lt (position_or_len test xs) (length xs)) (position_or_len test xs) ∙ place_below test xs

pub found_told : (told : Option Kept) (cid : Cid) (place : Option ℕ) (found : Bool) → found ≡ is_some place
    → IfSome told (λ kept. place ≡ position (same_cid cid) kept.order) → IfSome told (λ kept. found ≡ is_among kept.order cid)
found_told None cid place found e p = tt
found_told (Some kept) cid place found e p = e ∙ ap is_some p ∙ place_there (same_cid cid) kept.order
