-- The four lists together: no number stands twice in them.
use Rattle.std.proofs.Common.{◌≡◌, ℕ, ◌<◌, ◌≤◌, true, false, eqb, List, [], ◌∷◌, ◌++◌, length, Option, Some, refl, sym, ap, ◌∙◌, subst, arith, inl, inr}
use Rattle.std.specs.Prelude.{◌⊎◌}
use Rattle.mc_list.specs.Rings.{NotIn, Apart, Agree}
use Rattle.mc_list.specs.Web.{Shape}
use Rattle.mc_list.specs.Ringed.{ring}
use Rattle.mc_list.specs.Entries.{Entry, entry, those_at, has_place}
use Rattle.mc_list.specs.Whole.{Whole, place_at, collect, entries_in}
use Rattle.mc_list.proofs.RingFacts.{not_in_app}
use Rattle.mc_list.proofs.WebFacts.{apart_by}
use Rattle.mc_list.proofs.EntryFacts.{collect_app, those_one, has_not, few_those}

apart_app : (f : ℕ → Option ℕ) (k : ℕ) (xs ys : List ℕ) → Agree f (λ i. Some k) xs → Apart xs → Apart ys → ((x : ℕ) → f x ≡ Some k → NotIn x ys) → Apart (xs ++ ys)
apart_app f k [] ys c d e far = e
apart_app f k (x ∷ xs) ys c d e far = (not_in_app x xs ys d.0 (far x c.0), apart_app f k xs ys c.1 d.1 e far)

stands : (x : ℕ) (xs : List ℕ) → NotIn x xs ⊎ (NotIn x xs → ⊥)
stands x [] = inl tt
stands x (y ∷ ys) = (elim (eqb y x) as (λ t. eqb y x ≡ t → NotIn x (y ∷ ys) ⊎ (NotIn x (y ∷ ys) → ⊥)) [
  | true ↦ λ t. inr (λ d. let bad : true ≡ false = sym t ∙ d.0 in absurd (cc))
  | false ↦ λ t. more t (stands x ys)
]) refl
  where
    more : eqb y x ≡ false → NotIn x ys ⊎ (NotIn x ys → ⊥) → NotIn x (y ∷ ys) ⊎ (NotIn x (y ∷ ys) → ⊥)
    more t (inl d) = inl (t, d)
    more t (inr h) = inr (λ d. h d.1)

-- a number of two lists together is one of either
of_either : (x : ℕ) (xs ys : List ℕ) → (NotIn x (xs ++ ys) → ⊥) → (NotIn x xs → ⊥) ⊎ (NotIn x ys → ⊥)
of_either x xs ys h = by (stands x xs)
  where
    by : NotIn x xs ⊎ (NotIn x xs → ⊥) → (NotIn x xs → ⊥) ⊎ (NotIn x ys → ⊥)
    by (inl d) = inr (λ e. h (not_in_app x xs ys d e))
    by (inr on) = inl on

module _ {T : Type 0} (s : Shape T) where
  abbrev pub all_ring : List ℕ
  all_ring = ring s 0 ++ (ring s 1 ++ (ring s 2 ++ ring s 3))

  abbrev pub all_in : List (Entry T)
  all_in = entries_in s 0 ++ (entries_in s 1 ++ (entries_in s 2 ++ entries_in s 3))

  pub all_collect : all_in ≡ collect s.item all_ring
  all_collect = sym (collect_app s.item (ring s 0) (ring s 1 ++ (ring s 2 ++ ring s 3))
      ∙ ap (λ es. entries_in s 0 ++ es) (collect_app s.item (ring s 1) (ring s 2 ++ ring s 3)
      ∙ ap (λ es. entries_in s 1 ++ es) (collect_app s.item (ring s 2) (ring s 3))))

  -- a number of the four lists is one of one list
  pub within : (x : ℕ) → (NotIn x all_ring → ⊥) → (k : ℕ) × (k < 4) × (NotIn x (ring s k) → ⊥)
  within x on = first (of_either x (ring s 0) (ring s 1 ++ (ring s 2 ++ ring s 3)) on)
    where
      third : (NotIn x (ring s 2) → ⊥) ⊎ (NotIn x (ring s 3) → ⊥) → (k : ℕ) × (k < 4) × (NotIn x (ring s k) → ⊥)
      third (inl h) = (2, omega arith, h)
      third (inr h) = (3, omega arith, h)

      second : (NotIn x (ring s 1) → ⊥) ⊎ (NotIn x (ring s 2 ++ ring s 3) → ⊥) → (k : ℕ) × (k < 4) × (NotIn x (ring s k) → ⊥)
      second (inl h) = (1, omega arith, h)
      second (inr h) = third (of_either x (ring s 2) (ring s 3) h)

      first : (NotIn x (ring s 0) → ⊥) ⊎ (NotIn x (ring s 1 ++ (ring s 2 ++ ring s 3)) → ⊥) → (k : ℕ) × (k < 4) × (NotIn x (ring s k) → ⊥)
      first (inl h) = (0, omega arith, h)
      first (inr h) = second (of_either x (ring s 1) (ring s 2 ++ ring s 3) h)

  module _ (whole : Whole s) where
    class : (k : ℕ) → k < 5 → Agree s.list (λ i. Some k) (ring s k)
    class k h = (whole.rings k h).class.1

    far : (k l x : ℕ) → l < 5 → eqb k l ≡ false → s.list x ≡ Some k → NotIn x (ring s l)
    far k l x h d is = apart_by s.list k l x (ring s l) is d (class l h)

    -- a number of another list, as of the spare nodes, is none of the four lists'
    pub not_within : (k x : ℕ) → s.list x ≡ Some k → 4 ≤ k → NotIn x all_ring
    not_within k x is h =
        let off : (l : ℕ) → l < 4 → NotIn x (ring s l) = λ l few. far k l x (omega (arith, few)) (unequal k l (omega (arith, h, few))) is in
        not_in_app x (ring s 0) _ (off 0 (omega arith)) (not_in_app x (ring s 1) _ (off 1 (omega arith)) (not_in_app x (ring s 2) (ring s 3) (off 2 (omega arith)) (off 3 (omega arith))))
      where
        unequal : (k l : ℕ) → l < k → eqb k l ≡ false
        unequal k l less = grind (arith, less)

    pub all_apart : Apart all_ring
    all_apart = let one : (k : ℕ) → k < 5 → Apart (ring s k) = λ k h. (whole.rings k h).apart.1 in
        apart_app s.list 0 (ring s 0) (ring s 1 ++ (ring s 2 ++ ring s 3)) (class 0 (omega arith)) (one 0 (omega arith))
        (apart_app s.list 1 (ring s 1) (ring s 2 ++ ring s 3) (class 1 (omega arith)) (one 1 (omega arith))
        (apart_app s.list 2 (ring s 2) (ring s 3) (class 2 (omega arith)) (one 2 (omega arith)) (one 3 (omega arith))
        (λ x is. far 2 3 x (omega arith) refl is))
        (λ x is. not_in_app x (ring s 2) (ring s 3) (far 1 2 x (omega arith) refl is) (far 1 3 x (omega arith) refl is)))
        (λ x is. not_in_app x (ring s 1) (ring s 2 ++ ring s 3) (far 0 1 x (omega arith) refl is) (not_in_app x (ring s 2) (ring s 3) (far 0 2 x (omega arith) refl is) (far 0 3 x (omega arith) refl is)))

    pub one_each : (p : ℕ) → length (those_at (place_at p) all_in) ≤ 1
    one_each p = subst (λ es. length (those_at (place_at p) es) ≤ 1) (sym all_collect) (few_those p s.item all_ring all_apart)

    -- a place in use
    module _ (p : ℕ) (used : has_place (place_at p) all_in ≡ true) where
      on_all : NotIn p all_ring → ⊥
      on_all = has_not p s.item all_ring (ap (has_place (place_at p)) (sym all_collect) ∙ used)

      pub in_list : (k : ℕ) × (k < 4) × (NotIn p (ring s k) → ⊥)
      in_list = within p on_all

      pub the_one : (x : T) → s.item p ≡ Some x → those_at (place_at p) all_in ≡ entry (place_at p) x ∷ []
      the_one x is = ap (those_at (place_at p)) all_collect ∙ those_one p s.item x is all_ring all_apart on_all
