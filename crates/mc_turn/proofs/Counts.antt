-- A seat whose places are all of a list has as many as the list is long.
use Rattle.std.proofs.Common.{◌≡◌, ℕ, zero, suc, ◌+◌, ◌<◌, ◌≤◌, eqb, Bool, cond, List, [], ◌∷◌, length, refl, sym, ap, arith, eq-eqb, ne_eqb}
use mathlib.Core.Logic.{dite}
use native.Mathlib.Decide.{ℕ_discrete, dec_lt}
use Rattle.mc_turn.specs.declared.view.View.{View}
use Rattle.mc_turn.specs.Lists.{times}
use Rattle.mc_turn.specs.Views.{all_parts, KnowsPlaces}

abbrev one_if : Bool → ℕ
one_if b = cond b 1 0

abbrev upto : (ℕ → ℕ) → ℕ → ℕ
upto f zero = 0
upto f (suc n) = upto f n + f n

upto_none : (f : ℕ → ℕ) (n : ℕ) → ((p : ℕ) → p < n → f p ≡ 0) → upto f n ≡ 0
upto_none f zero h = refl
upto_none f (suc n) h = let a = upto_none f n (λ p l. h p (omega arith)) in let b = h n (omega arith) in omega arith

upto_each : (f : ℕ → ℕ) (n : ℕ) → ((p : ℕ) → p < n → f p ≡ 1) → upto f n ≡ n
upto_each f zero h = refl
upto_each f (suc n) h = let a = upto_each f n (λ p l. h p (omega arith)) in let b = h n (omega arith) in omega arith

upto_sum : (f g : ℕ → ℕ) (n : ℕ) → upto (λ p. f p + g p) n ≡ upto f n + upto g n
upto_sum f g zero = refl
upto_sum f g (suc n) = let a = upto_sum f g n in omega arith

upto_one : (x n : ℕ) → x < n → upto (λ p. one_if (eqb x p)) n ≡ 1
upto_one x zero h = absurd (omega arith)
upto_one x (suc n) h = dite (ℕ_discrete x n)
    (λ e. let a = upto_none (λ p. one_if (eqb x p)) n (λ p l. ap one_if (ne_eqb x p (λ q. omega arith))) in let b : one_if (eqb x n) ≡ 1 = ap one_if (eq-eqb x n e) in omega arith)
    (λ ne. let a = upto_one x n (omega arith) in let b : one_if (eqb x n) ≡ 0 = ap one_if (ne_eqb x n ne) in omega arith)

pub counted : (n : ℕ) (xs : List ℕ) → ((p : ℕ) → n ≤ p → times p xs ≡ 0) → length xs ≡ upto (λ p. times p xs) n
counted n [] h = sym (upto_none (λ p. times p []) n (λ p l. refl))
counted n (x ∷ xs) h = let a = counted n xs (λ p l. let b = h p l in omega arith) in let s = upto_sum (λ p. one_if (eqb x p)) (λ p. times p xs) n in
    let small : x < n = elim (dec_lt x n) [ yes d ↦ d | no d ↦ absurd (let b = h x (omega arith) in let c : one_if (eqb x x) ≡ 1 = ap one_if (eq-eqb x x refl) in let e : one_if (eqb x x) + times x xs ≡ 0 = b in omega (arith, e, c)) ] in
    let o : upto (λ p. one_if (eqb x p)) n ≡ 1 = upto_one x n small in let t : upto (λ p. times p (x ∷ xs)) n ≡ upto (λ p. one_if (eqb x p)) n + upto (λ p. times p xs) n = s in omega (arith, a, o, t)

upto_from : (f : ℕ → ℕ) (b n : ℕ) → b ≤ n → ((p : ℕ) → p < b → f p ≡ 0) → ((p : ℕ) → b ≤ p → p < n → f p ≡ 1) → upto f n + b ≡ n
upto_from f b zero le h g = omega arith
upto_from f b (suc n) le h g = dite (ℕ_discrete b (suc n))
    (λ e. let a = upto_none f (suc n) (λ p l. h p (omega arith)) in omega (arith, a, e))
    (λ ne. let a = upto_from f b n (omega arith) h (λ p l m. g p l (omega arith)) in let c = g n (omega arith) (omega arith) in omega (arith, a, c))

-- the places of a seat with all parts are as many as were appended since `new`
pub all_mine : {E : Type 0} (v : View E) (n : ℕ) → KnowsPlaces v n → v.parts ≡ all_parts → length v.mine + v.base ≡ n
all_mine v n l all = let a = counted n v.mine l.below in let b = upto_from (λ p. times p v.mine) v.base n (l.grown all) (l.early all) (λ p g h. l.whole all p g h) in omega (arith, a, b)
