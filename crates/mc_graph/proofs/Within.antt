-- Places within a list.
use Rattle.std.proofs.Common.{◌≡◌, ℕ, zero, suc, ◌<◌, arith, true, List, [], ◌∷◌, ◌++◌, length, refl}
use Rattle.std.specs.Prelude.{nat_lt, slice_get}
use Rattle.std.proofs.lemmas.Bool.Decides.{nat_tests}

pub get_push : {A : Type 0} (xs : List A) (y : A) (i : ℕ) → i < length xs → slice_get (xs ++ y ∷ []) i ≡ slice_get xs i
get_push [] y i below = absurd (omega (arith, below))
get_push (x ∷ xs) y zero below = refl
get_push (x ∷ xs) y (suc i) below = get_push xs y i (omega (arith, below))

pub is_below : (place at : ℕ) → nat_lt at place ≡ true → at < place
is_below place at e = grind (arith, nat_tests, e)
