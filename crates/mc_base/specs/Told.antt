-- What two moments of an object have in common, where it tells its content.
use Rattle.std.specs.Prelude.{ℕ, List, Option, None, Some, ⊤, take}
use Rattle.std.specs.Io.KnownBytes.{Appends}

-- where the first is told so is the second, and P ties them
abbrev pub Told : {A B : Type 0} → Option A → Option B → (A → B → Type 0) → Type 0
Told None after P = ⊤
Told (Some x) None P = ⊥
Told (Some x) (Some y) P = P x y

-- known bytes grow by some first bytes of a text
pub record AppendsPart (old new : Option (List ℕ)) (text : List ℕ) : Type 0 where
  pub count : ℕ
  pub part : Appends old new (take count text)
