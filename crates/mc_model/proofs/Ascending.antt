-- Ascending lists: what fixes them, and what putting an item into its place keeps.
use Rattle.std.proofs.Common.{◌≡◌, Bool, true, false, List, [], ◌∷◌, ◌||◌, ◌&&◌, not, sym, refl, ap, ◌∙◌, subst}
use Rattle.std.specs.List.{list_any, AllByRecursion}
use Rattle.std.specs.List.Sorted.{IsStrictlySortedBy}
use Rattle.std.specs.Cmp.{IsTotalOrder}
use Rattle.std.specs.Ordering.{is_eq, ordering_reverse}
use Rattle.std.specs.declared.cmp.Ordering.{Ordering}
use Rattle.std.specs.declared.cmp.Ordering.TheVariants.{Less, Equal, Greater}
use Rattle.std.proofs.lemmas.Cmp.{tied_itself}
use Rattle.std.proofs.Math.Bool.{and-false, and-true, or_self_left}
use Rattle.mc_base.proofs.Booleans.{or_shift}
use Rattle.mc_model.specs.SameMembers.{SameMembers}
use Rattle.mc_model.specs.Ascending.{insert_in_order, ascending, Ascends}

reverse_greater : (o p : Ordering) → o ≡ ordering_reverse p → o ≡ Greater → p ≡ Less
reverse_greater o Less e f = refl
reverse_greater o Equal e f = absurd (let g : Equal ≡ Greater = sym e ∙ f in cc)
reverse_greater o Greater e f = absurd (let g : Less ≡ Greater = sym e ∙ f in cc)

module _ {X : Type 0} (cmp : X → X → Ordering) (total : IsTotalOrder cmp) (tied : (x y : X) → cmp x y ≡ Equal → x ≡ y) where
  abbrev Below : X → List X → Type 0
  Below x ys = AllByRecursion (λ y. cmp x y ≡ Less) ys

  below_trans : (x y : X) (zs : List X) → cmp x y ≡ Less → Below y zs → Below x zs
  below_trans x y [] e b = b
  below_trans x y (z ∷ zs) e b = (total.trans x y z e b.0, below_trans x y zs e b.1)

  -- a test of an item below the list finds nothing there
  not_in : (x : X) (ys : List X) → Below x ys → list_any (λ y. is_eq (cmp x y)) ys ≡ false
  not_in x [] b = refl
  not_in x (y ∷ ys) b = ap (λ o. is_eq o || list_any (λ y. is_eq (cmp x y)) ys) b.0 ∙ not_in x ys b.1

  -- and there its test may be left out
  left_out : (x : X) (test : X → Bool) (ys : List X) → Below x ys → list_any (λ y. test y && not (is_eq (cmp x y))) ys ≡ list_any test ys
  left_out x test [] b = refl
  left_out x test (y ∷ ys) b =
      ap (λ o. (test y && not (is_eq o)) || list_any (λ y. test y && not (is_eq (cmp x y))) ys) b.0
      ∙ ap (λ t. t || list_any (λ y. test y && not (is_eq (cmp x y))) ys) (and-true (test y))
      ∙ ap (λ rest. test y || rest) (left_out x test ys b.1)

  -- the first of each is the other's first
  first_is : (x : X) (xs : List X) (y : X) (ys : List X) → Below y ys → SameMembers (x ∷ xs) (y ∷ ys) → cmp x y ≡ Less → true ≡ false
  first_is x xs y ys below same e =
      sym (ap (λ o. is_eq o || list_any (λ z. is_eq (cmp x z)) xs) (tied_itself total x))
      ∙ same.same (λ z. is_eq (cmp x z))
      ∙ not_in x (y ∷ ys) (e, below_trans x y ys e below)

  -- without the first, which is the same, the members are the same
  rest_is : (x : X) (xs ys : List X) → Below x xs → Below x ys → SameMembers (x ∷ xs) (x ∷ ys) → SameMembers xs ys
  rest_is x xs ys below below' same = record {
    same = λ test.
        sym (left_out x test xs below) ∙ dropped test xs ∙ same.same (λ y. test y && not (is_eq (cmp x y))) ∙ sym (dropped test ys) ∙ left_out x test ys below';
  }
    where
      dropped : (test : X → Bool) (zs : List X) → list_any (λ y. test y && not (is_eq (cmp x y))) zs ≡ list_any (λ y. test y && not (is_eq (cmp x y))) (x ∷ zs)
      dropped test zs = sym (ap (λ o. (test x && not (is_eq o)) || list_any (λ y. test y && not (is_eq (cmp x y))) zs) (tied_itself total x)
          ∙ ap (λ t. t || list_any (λ y. test y && not (is_eq (cmp x y))) zs) (and-false (test x)))

  -- order and members fix a list
  pub ascending_fixed : (xs ys : List X) → IsStrictlySortedBy cmp xs → IsStrictlySortedBy cmp ys → SameMembers xs ys → xs ≡ ys
  unfolding IsStrictlySortedBy
  ascending_fixed [] [] s t same = refl
  ascending_fixed [] (y ∷ ys) s t same = absurd (let e : false ≡ true = same.same (λ _. true) in cc)
  ascending_fixed (x ∷ xs) [] s t same = absurd (let e : true ≡ false = same.same (λ _. true) in cc)
  ascending_fixed (x ∷ xs) (y ∷ ys) s t same =
      elim (cmp x y) as (λ o. cmp x y ≡ o → (x ∷ xs) ≡ (y ∷ ys)) [
        | Less ↦ λ e. absurd (let f : true ≡ false = first_is x xs y ys t.0 same e in cc)
        | Equal ↦ λ e.
            let equal : x ≡ y = tied x y e in
            let below : Below x ys = subst (λ z. Below z ys) (sym equal) t.0 in
            let same' : SameMembers (x ∷ xs) (x ∷ ys) = subst (λ z. SameMembers (x ∷ xs) (z ∷ ys)) (sym equal) same in
            ap (λ z. z ∷ xs) equal ∙ ap (λ zs. y ∷ zs) (ascending_fixed xs ys s.1 t.1 (rest_is x xs ys s.0 below same'))
        | Greater ↦ λ e. absurd (let f : true ≡ false = first_is y ys x xs s.0 (record { same = λ test. sym (same.same test) }) (reverse_greater (cmp x y) (cmp y x) (total.antisymm x y) e) in cc)
      ] refl

  insert_members : (test : X → Bool) (x : X) (ys : List X) → list_any test (insert_in_order cmp x ys) ≡ (test x || list_any test ys)
  insert_members test x [] = refl
  insert_members test x (y ∷ ys) =
      elim (cmp x y) as (λ o. cmp x y ≡ o → list_any test (elim o [ Less ↦ x ∷ y ∷ ys | Equal ↦ y ∷ ys | Greater ↦ y ∷ insert_in_order cmp x ys ]) ≡ (test x || (test y || list_any test ys))) [
        | Less ↦ λ e. refl
        | Equal ↦ λ e. subst (λ z. (test y || list_any test ys) ≡ (test z || (test y || list_any test ys))) (sym (tied x y e)) (sym (or_self_left (test y) (list_any test ys)))
        | Greater ↦ λ e. ap (λ rest. test y || rest) (insert_members test x ys) ∙ or_shift (test y) (test x) (list_any test ys)
      ] refl

  insert_below : (w x : X) (ys : List X) → cmp w x ≡ Less → Below w ys → Below w (insert_in_order cmp x ys)
  insert_below w x [] e b = (e, b)
  insert_below w x (y ∷ ys) e b =
      elim (cmp x y) as (λ o. Below w (elim o [ Less ↦ x ∷ y ∷ ys | Equal ↦ y ∷ ys | Greater ↦ y ∷ insert_in_order cmp x ys ])) [
        | Less ↦ (e, b)
        | Equal ↦ b
        | Greater ↦ (b.0, insert_below w x ys e b.1)
      ]

  insert_sorted : (x : X) (ys : List X) → IsStrictlySortedBy cmp ys → IsStrictlySortedBy cmp (insert_in_order cmp x ys)
  unfolding IsStrictlySortedBy
  insert_sorted x [] s = ((tt {0}), (tt {0}))
  insert_sorted x (y ∷ ys) s =
      elim (cmp x y) as (λ o. cmp x y ≡ o → IsStrictlySortedBy cmp (elim o [ Less ↦ x ∷ y ∷ ys | Equal ↦ y ∷ ys | Greater ↦ y ∷ insert_in_order cmp x ys ])) [
        | Less ↦ λ e. ((e, below_trans x y ys e s.0), s)
        | Equal ↦ λ e. s
        | Greater ↦ λ e. (insert_below y x ys (reverse_greater (cmp x y) (cmp y x) (total.antisymm x y) e) s.0, insert_sorted x ys s.1)
      ] refl

  ascending_sorted : (xs : List X) → IsStrictlySortedBy cmp (ascending cmp xs)
  unfolding IsStrictlySortedBy
  ascending_sorted [] = tt {0}
  ascending_sorted (x ∷ xs) = insert_sorted x (ascending cmp xs) (ascending_sorted xs)

  ascending_members : (test : X → Bool) (xs : List X) → list_any test (ascending cmp xs) ≡ list_any test xs
  ascending_members test [] = refl
  ascending_members test (x ∷ xs) = insert_members test x (ascending cmp xs) ∙ ap (λ rest. test x || rest) (ascending_members test xs)

  -- the ascending list of some items ascends
  pub ascending_ascends : (xs : List X) → Ascends cmp (ascending cmp xs) xs
  ascending_ascends xs = record { sorted = ascending_sorted xs; members = record { same = λ test. ascending_members test xs } }

  -- and each list that ascends over the same items is this one
  pub ascends_is : (rows items : List X) → Ascends cmp rows items → rows ≡ ascending cmp items
  ascends_is rows items ascends =
      ascending_fixed rows (ascending cmp items) ascends.sorted (ascending_sorted items)
      (record { same = λ test. ascends.members.same test ∙ sym (ascending_members test items) })
