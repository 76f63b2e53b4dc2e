-- The name of a command.
use Rattle.std.proofs.Common.{◌≡◌, ℕ, Bool, true, false, List, refl}
use Rattle.std.specs.Str.{bytes_eq}
use Rattle.std.proofs.lemmas.Slice.Eq.{bytes_eq-Decides}

-- the test of another name
pub is_other : (name wanted : List ℕ) → ¬ (name ≡ wanted) → bytes_eq name wanted ≡ false
is_other name wanted differs = by_test (bytes_eq name wanted) refl
  where
    by_test : (test : Bool) → bytes_eq name wanted ≡ test → bytes_eq name wanted ≡ false
    by_test true is = absurd (differs ((bytes_eq-Decides name wanted).0 is))
    by_test false is = is
