-- What the pairs of a query are over every keeper, also over one that does not tell.
use Rattle.std.specs.Prelude.{◌≡◌, ⊤, ℕ, ◌≤◌, Bool, true, false, List, [], ◌∷◌, length}
use Rattle.std.specs.List.{list_all}
use Rattle.mc_key.specs.Prefix.{is_under}
use Rattle.mc_keep.specs.Next.{is_past}
use Rattle.mc_query.specs.declared.pair.Pair.{Pair}

-- the keys ascend strictly, and the first of them is past the bound
abbrev pub Ascend : List ℕ → Bool → List Pair → Type 0
Ascend bound inclusive [] = ⊤
Ascend bound inclusive (pair ∷ pairs) = (is_past bound inclusive pair.key ≡ true) × Ascend pair.key false pairs

-- at most so many pairs, each of a key that the prefix selects, ascending past the bound
pub record AreAnswers (bound : List ℕ) (inclusive : Bool) (prefix : List ℕ) (count : ℕ) (pairs : List Pair)
    : Type 0 where
  pub few : length pairs ≤ count
  pub under : list_all (λ (pair : Pair). is_under prefix pair.key) pairs ≡ true
  pub ascend : Ascend bound inclusive pairs
