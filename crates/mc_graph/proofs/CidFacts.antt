-- What drops an identifier from a table, and tables where nothing is.
use Rattle.std.proofs.Common.{◌≡◌, arith, Bool, true, false, cond, not, ◌&&◌, List, [], ◌∷◌, length, refl}

pub cond_and : (a b : Bool) → cond a false b ≡ (not a && b)
cond_and true b = refl
cond_and false b = refl

pub not_and_none : (a : Bool) → false ≡ (not a && false)
not_and_none true = refl
not_and_none false = refl

pub nothing_in : {A : Type 0} (xs : List A) → length xs ≡ 0 → xs ≡ []
nothing_in [] e = refl
nothing_in (x ∷ xs) e = absurd (omega (arith, e))
