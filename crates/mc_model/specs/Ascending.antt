-- Lists in ascending order, each item once.
use Rattle.std.specs.Prelude.{Bool, true, false, not, ◌&&◌, List, [], ◌∷◌}
use Rattle.std.specs.List.{list_any}
use Rattle.std.specs.List.Sorted.{IsStrictlySortedBy}
use Rattle.std.specs.declared.cmp.Ordering.{Ordering}
use Rattle.std.specs.declared.cmp.Ordering.TheVariants.{Less, Equal, Greater}
use Rattle.mc_model.specs.SameMembers.{SameMembers}

-- the item put into its place, unless it stands there
abbrev pub insert_in_order : {X : Type 0} → (X → X → Ordering) → X → List X → List X
insert_in_order cmp x [] = x ∷ []
insert_in_order cmp x (y ∷ ys) = elim (cmp x y) [
  | Less ↦ x ∷ y ∷ ys
  | Equal ↦ y ∷ ys
  | Greater ↦ y ∷ insert_in_order cmp x ys
]

-- the items of a list in ascending order, each once
abbrev pub ascending : {X : Type 0} → (X → X → Ordering) → List X → List X
ascending cmp [] = []
ascending cmp (x ∷ xs) = insert_in_order cmp x (ascending cmp xs)

-- the rows are the items, in ascending order, each once
pub record Ascends {X : Type 0} (cmp : X → X → Ordering) (rows items : List X) : Type 0 where
  pub sorted : IsStrictlySortedBy cmp rows
  pub members : SameMembers rows items

-- whether no item stands twice, by this test
abbrev pub is_once : {X : Type 0} → (X → X → Bool) → List X → Bool
is_once same [] = true
is_once same (x ∷ xs) = not (list_any (same x) xs) && is_once same xs

-- the items of a list, each once
abbrev pub once : {X : Type 0} → (X → X → Bool) → List X → List X
once same [] = []
once same (x ∷ xs) = elim (list_any (same x) xs) [ true ↦ once same xs | false ↦ x ∷ once same xs ]
