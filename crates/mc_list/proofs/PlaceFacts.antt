-- Which places are in use, in terms of four lists of entries.
use Rattle.std.specs.Prelude.{◌||◌, not}
use Rattle.std.proofs.Common.{◌≡◌, ℕ, zero, suc, ◌<◌, Bool, true, false, eqb, T as Yes, cond, List, [], ◌∷◌, ◌++◌, Some, is_some, refl, sym, ap, ◌∙◌, subst, arith, eqb→eq}
use Rattle.std.proofs.lemmas.List.Folds.{list_any-append}
use Rattle.mc_list.specs.Entries.{Entry, entry, stands_at, others, has_place, first_place}
use Rattle.mc_list.specs.declared.lists.Place.{Place}
use Rattle.mc_list.proofs.RingFacts.{eqb-self, eqb-symm}

left_true : (a b : Bool) → a ≡ true → (a || b) ≡ true
left_true true b e = refl
left_true false b e = absurd (cc)

right_true : (a b : Bool) → b ≡ true → (a || b) ≡ true
right_true true b e = refl
right_true false b e = e

module _ {T : Type 0} where
  abbrev all : (ℕ → List (Entry T)) → List (Entry T)
  all f = f 0 ++ (f 1 ++ (f 2 ++ f 3))

  has_left : (q : Place) (xs ys : List (Entry T)) → has_place q xs ≡ true → has_place q (xs ++ ys) ≡ true
  has_left q xs ys h = list_any-append (stands_at q) xs ys ∙ left_true (has_place q xs) (has_place q ys) h

  has_right : (q : Place) (xs ys : List (Entry T)) → has_place q ys ≡ true → has_place q (xs ++ ys) ≡ true
  has_right q xs ys h = list_any-append (stands_at q) xs ys ∙ right_true (has_place q xs) (has_place q ys) h

  -- an entry of one list is one of all four
  pub of_one : (f : ℕ → List (Entry T)) (q : Place) (l : ℕ) → l < 4 → has_place q (f l) ≡ true → has_place q (all f) ≡ true
  of_one f q zero h e = has_left q (f 0) (f 1 ++ (f 2 ++ f 3)) e
  of_one f q (suc zero) h e = has_right q (f 0) (f 1 ++ (f 2 ++ f 3)) (has_left q (f 1) (f 2 ++ f 3) e)
  of_one f q (suc (suc zero)) h e = has_right q (f 0) (f 1 ++ (f 2 ++ f 3)) (has_right q (f 1) (f 2 ++ f 3) (has_left q (f 2) (f 3) e))
  of_one f q (suc (suc (suc zero))) h e = has_right q (f 0) (f 1 ++ (f 2 ++ f 3)) (has_right q (f 1) (f 2 ++ f 3) (has_right q (f 2) (f 3) e))
  of_one f q (suc (suc (suc (suc l)))) h e = absurd (omega (arith, h))

  -- what each list keeps, all four keep
  pub kept_all : (f g : ℕ → List (Entry T)) (q : Place) → ((l : ℕ) → l < 4 → has_place q (f l) ≡ true → has_place q (g l) ≡ true) → has_place q (all f) ≡ true → has_place q (all g) ≡ true
  kept_all f g q keeps h = zeroth (has_place q (f 0)) refl (sym (list_any-append (stands_at q) (f 0) (f 1 ++ (f 2 ++ f 3))) ∙ h)
    where
      second : (b : Bool) → has_place q (f 2) ≡ b → (b || has_place q (f 3)) ≡ true → has_place q (all g) ≡ true
      second true e s = of_one g q 2 (omega arith) (keeps 2 (omega arith) e)
      second false e s = of_one g q 3 (omega arith) (keeps 3 (omega arith) s)

      first : (b : Bool) → has_place q (f 1) ≡ b → (b || has_place q (f 2 ++ f 3)) ≡ true → has_place q (all g) ≡ true
      first true e s = of_one g q 1 (omega arith) (keeps 1 (omega arith) e)
      first false e s = second (has_place q (f 2)) refl (sym (list_any-append (stands_at q) (f 2) (f 3)) ∙ s)

      zeroth : (b : Bool) → has_place q (f 0) ≡ b → (b || has_place q (f 1 ++ (f 2 ++ f 3))) ≡ true → has_place q (all g) ≡ true
      zeroth true e s = of_one g q 0 (omega arith) (keeps 0 (omega arith) e)
      zeroth false e s = first (has_place q (f 1)) refl (sym (list_any-append (stands_at q) (f 1) (f 2 ++ f 3)) ∙ s)

  pub has_first : (es : List (Entry T)) (p : Place) → Some p ≡ first_place es → has_place p es ≡ true
  has_first [] p e = absurd (let bad : true ≡ false = ap is_some e in cc)
  has_first (x ∷ es) p e = let same : p ≡ x.place = cc in
      left_true (stands_at p x) (has_place p es) (ap (λ q. eqb x.place.number q) (ap (λ (r : Place). r.number) same) ∙ eqb-self x.place.number)

  other_kept : (p q : Place) → eqb q.number p.number ≡ false → (es : List (Entry T)) → has_place q es ≡ true → has_place q (others p es) ≡ true
  other_kept p q d [] e = e
  other_kept p q d (x ∷ es) e = (elim (eqb x.place.number p.number) as (λ t. eqb x.place.number p.number ≡ t → has_place q (cond (not t) (x ∷ others p es) (others p es)) ≡ true) [
    | true ↦ λ t. other_kept p q d es (off t e)
    | false ↦ λ t. more (other_kept p q d es) (stands_at q x) refl e
  ]) refl
    where
      off : eqb x.place.number p.number ≡ true → (stands_at q x || has_place q es) ≡ true → has_place q es ≡ true
      off t = subst (λ b. (b || has_place q es) ≡ true → has_place q es ≡ true)
          (sym (ap (λ n. eqb n q.number) (eqb→eq x.place.number p.number (subst Yes (sym t) tt)) ∙ eqb-symm p.number q.number ∙ d)) (λ h. h)

      more : (has_place q es ≡ true → has_place q (others p es) ≡ true) → (b : Bool) → stands_at q x ≡ b → (b || has_place q es) ≡ true → (stands_at q x || has_place q (others p es)) ≡ true
      more rest true s h = left_true (stands_at q x) (has_place q (others p es)) s
      more rest false s h = right_true (stands_at q x) (has_place q (others p es)) (rest h)

  module _ (f g : ℕ → List (Entry T)) where
    -- a new entry at r
    module _ (to : ℕ) (four : to < 4) (r : Place) (x : T) (added : (l : ℕ) → g l ≡ f l ++ cond (eqb to l) (entry r x ∷ []) []) where
      pub add_uses : has_place r (all g) ≡ true
      add_uses = of_one g r to four (ap (has_place r) (added to) ∙ has_right r (f to) (cond (eqb to to) (entry r x ∷ []) [])
          (ap (λ b. has_place r (cond b (entry r x ∷ []) [])) (eqb-self to) ∙ ap (λ b. b || false) (eqb-self r.number)))

      pub add_keeps : (q : Place) → has_place q (all f) ≡ true → has_place q (all g) ≡ true
      add_keeps q = kept_all f g q (λ l h e. ap (has_place q) (added l) ∙ has_left q (f l) (cond (eqb to l) (entry r x ∷ []) []) e)

    module _ (p : Place) where
      -- the entry at p went to the list `to`, where it stands behind what is left
      pub shift_keeps : (to : ℕ) → to < 4 → (x : T) → ((l : ℕ) → g l ≡ others p (f l) ++ cond (eqb to l) (entry p x ∷ []) []) → (q : Place) → has_place q (all f) ≡ true → has_place q (all g) ≡ true
      shift_keeps to four x moved q h = (elim (eqb q.number p.number) as (λ t. eqb q.number p.number ≡ t → has_place q (all g) ≡ true) [
        | true ↦ λ t. of_one g q to four (ap (has_place q) (moved to) ∙ has_right q (others p (f to)) (cond (eqb to to) (entry p x ∷ []) [])
            (ap (λ b. has_place q (cond b (entry p x ∷ []) [])) (eqb-self to) ∙ ap (λ b. b || false) (eqb-symm p.number q.number ∙ t)))
        | false ↦ λ t. kept_all f g q (λ l few e. ap (has_place q) (moved l) ∙ has_left q (others p (f l)) (cond (eqb to l) (entry p x ∷ []) []) (other_kept p q t (f l) e)) h
      ]) refl

      pub take_keeps : ((l : ℕ) → g l ≡ others p (f l)) → (q : Place) → eqb q.number p.number ≡ false → has_place q (all f) ≡ true → has_place q (all g) ≡ true
      take_keeps taken q d = kept_all f g q (λ l few e. ap (has_place q) (taken l) ∙ other_kept p q d (f l) e)
