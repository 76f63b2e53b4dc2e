-- Words on lists, and on places in them.
use Rattle.std.specs.Prelude.{◌≡◌, ℕ, zero, suc, ◌+◌, ◌==◌, if◌then◌else◌, List, [], ◌∷◌, ◌++◌, length, nat_le}

-- xs begins ys: a rest follows it there
abbrev pub Begins : {A : Type 0} → List A → List A → Type 0
Begins {A} xs ys = (rest : List A) × (xs ++ rest ≡ ys)

-- of two lists the longer one, and the other
abbrev pub longer_of : {A : Type 0} → List A → List A → List A
longer_of xs ys = if nat_le (length xs) (length ys) then ys else xs

abbrev pub shorter_of : {A : Type 0} → List A → List A → List A
shorter_of xs ys = if nat_le (length xs) (length ys) then xs else ys

-- count places: first, first + 1 and so on
abbrev pub places : ℕ → ℕ → List ℕ
places first zero = []
places first (suc count) = first ∷ places (suc first) count

-- how many times the place stands in the list
abbrev pub times : ℕ → List ℕ → ℕ
times place [] = 0
times place (x ∷ xs) = (if x == place then 1 else 0) + times place xs

-- f of each member, added up
abbrev pub total : {A : Type 0} → (A → ℕ) → List A → ℕ
total f [] = 0
total f (x ∷ xs) = f x + total f xs
