-- Lists that begin others, places, and totals over views.
use Rattle.std.proofs.Common.{◌≡◌, ℕ, zero, suc, ◌+◌, ◌<◌, ◌≤◌, leb, cond, Bool, true, false, List, [], ◌∷◌, ◌++◌, length, set, sym, refl, ap, ◌∙◌, append-nil, append_assoc, length-append, arith, eq-eqb, ne_eqb}
use mathlib.Core.Option.{some, some-injective, some-ne-none}
use mathlib.Core.Logic.{dite}
use mathlib.Core.List.{head-eq_of_cons-eq, tail-eq_of_cons-eq}
use native.Mathlib.Decide.{ℕ_discrete}
use lib.ListN.{get_elem?}
use Rattle.mc_turn.specs.Lists.{Begins, places, times, total, longer_of, shorter_of}

module _ {A : Type 0} where
  pub begins_self : (xs : List A) → Begins xs xs
  begins_self xs = ([], append-nil xs)

  pub begins_nil : (xs : List A) → Begins [] xs
  begins_nil xs = (xs, refl)

  pub begins_trans : (xs ys zs : List A) → Begins xs ys → Begins ys zs → Begins xs zs
  begins_trans xs ys zs a b = (a.0 ++ b.0, sym (append_assoc xs a.0 b.0) ∙ (ap (λ (l : List A). l ++ b.0) a.1 ∙ b.1))

  pub begins_length : (xs ys : List A) → Begins xs ys → length xs ≤ length ys
  begins_length xs ys a = let e : length xs + length a.0 ≡ length ys = sym (length-append xs a.0) ∙ ap length a.1 in omega arith

  begins_from_appends : (xs ys r t : List A) → xs ++ r ≡ ys ++ t → length xs ≤ length ys → Begins xs ys
  begins_from_appends [] ys r t e h = (ys, refl)
  begins_from_appends (x ∷ xs) [] r t e h = absurd (omega arith)
  begins_from_appends (x ∷ xs) (y ∷ ys) r t e h = let b = begins_from_appends xs ys r t (tail-eq_of_cons-eq e) (omega arith) in (b.0, λ k. head-eq_of_cons-eq e k ∷ b.1 k)

  -- of two beginnings of one list the shorter begins the longer
  pub begins_both : (xs ys log : List A) → Begins xs log → Begins ys log → length xs ≤ length ys → Begins xs ys
  begins_both xs ys log a b h = begins_from_appends xs ys a.0 b.0 (a.1 ∙ sym b.1) h

  pub longer_begins : (xs ys log : List A) → Begins xs log → Begins ys log → Begins (longer_of xs ys) log
  longer_begins xs ys log a b = go (leb (length xs) (length ys)) where
    go : (c : Bool) → Begins (cond c ys xs) log
    go true = b
    go false = a

  pub shorter_begins : (xs ys log : List A) → Begins xs log → Begins ys log → Begins (shorter_of xs ys) log
  shorter_begins xs ys log a b = go (leb (length xs) (length ys)) where
    go : (c : Bool) → Begins (cond c xs ys) log
    go true = a
    go false = b

  pub total_set : (f : A → ℕ) (vs : List A) (j : ℕ) (v w : A) → get_elem? vs j ≡ some v → total f (set vs j w) + f v ≡ total f vs + f w
  total_set f [] j v w e = absurd (some-ne-none v (sym e))
  total_set f (x ∷ xs) zero v w e = let same : f x ≡ f v = ap f (some-injective x v e) in omega arith
  total_set f (x ∷ xs) (suc j) v w e = let h = total_set f xs j v w e in omega arith

  pub total_snoc : (f : A → ℕ) (vs : List A) (w : A) → total f (vs ++ w ∷ []) ≡ total f vs + f w
  total_snoc f [] w = omega arith
  total_snoc f (x ∷ xs) w = let h = total_snoc f xs w in omega arith

  pub total_least : (f : A → ℕ) (vs : List A) (j : ℕ) (v : A) → get_elem? vs j ≡ some v → f v ≤ total f vs
  total_least f [] j v e = absurd (some-ne-none v (sym e))
  total_least f (x ∷ xs) zero v e = let same : f x ≡ f v = ap f (some-injective x v e) in omega arith
  total_least f (x ∷ xs) (suc j) v e = let h = total_least f xs j v e in omega arith

  total_none : (g f : A → ℕ) (vs : List A) → ((j : ℕ) (u : A) → get_elem? vs j ≡ some u → g u ≡ 0 → f u ≡ 0) → total g vs ≡ 0 → total f vs ≡ 0
  total_none g f [] idle z = refl
  total_none g f (x ∷ xs) idle z = let a : f x ≡ 0 = idle zero x refl (omega arith) in let b : total f xs ≡ 0 = total_none g f xs (λ j u e. idle (suc j) u e) (omega arith) in omega arith

  -- where one view has all of g, and a view with no g has no f, it has all of f
  pub total_one : (g f : A → ℕ) (vs : List A) (j : ℕ) (v : A) → get_elem? vs j ≡ some v → ((j : ℕ) (u : A) → get_elem? vs j ≡ some u → g u ≡ 0 → f u ≡ 0) → total g vs ≡ g v → total f vs ≡ f v
  total_one g f [] j v e idle z = absurd (some-ne-none v (sym e))
  total_one g f (x ∷ xs) zero v e idle z = let same : f x ≡ f v = ap f (some-injective x v e) in let same' : g x ≡ g v = ap g (some-injective x v e) in
      let b : total f xs ≡ 0 = total_none g f xs (λ j u e. idle (suc j) u e) (omega arith) in omega arith
  total_one g f (x ∷ xs) (suc j) v e idle z = let l = total_least g xs j v e in let a : f x ≡ 0 = idle zero x refl (omega arith) in
      let b : total f xs ≡ f v = total_one g f xs j v e (λ j u e. idle (suc j) u e) (omega arith) in omega arith

pub times_append : (p : ℕ) (xs ys : List ℕ) → times p (xs ++ ys) ≡ times p xs + times p ys
times_append p [] ys = omega arith
times_append p (x ∷ xs) ys = let h = times_append p xs ys in omega arith

pub times_below : (p n k : ℕ) → p < n → times p (places n k) ≡ 0
times_below p n zero h = refl
times_below p n (suc k) h = let a = times_below p (suc n) k (omega arith) in let b = ne_eqb n p (λ e. omega arith) in rw b (omega arith)

pub times_within : (p n k : ℕ) → n ≤ p → p < n + k → times p (places n k) ≡ 1
times_within p n zero l h = absurd (omega arith)
times_within p n (suc k) l h = dite (ℕ_discrete n p)
    (λ e. let b = eq-eqb n p e in let a = times_below p (suc n) k (omega arith) in rw b (omega arith))
    (λ ne. let b = ne_eqb n p ne in let a = times_within p (suc n) k (omega arith) (omega arith) in rw b (omega arith))

pub times_beyond : (p n k : ℕ) → n + k ≤ p → times p (places n k) ≡ 0
times_beyond p n zero h = refl
times_beyond p n (suc k) h = let a = times_beyond p (suc n) k (omega arith) in let b = ne_eqb n p (λ e. omega arith) in rw b (omega arith)
