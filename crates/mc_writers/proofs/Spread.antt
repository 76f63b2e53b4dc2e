-- Items of several lists, put into the order of their places.
use Rattle.std.proofs.Common.{◌≡◌, ◌≤◌, ◌<◌, ◌+◌, ◌==◌, ℕ, zero, suc, Bool, true, false, ◌&&◌, not, cond, List, [], ◌∷◌, ◌++◌, length, map, filter, refl, sym, ap, ◌∙◌, subst, arith, eq-eqb, ne_eqb, append_assoc, append-nil}
use mathlib.Core.Logic.{dite}
use native.Mathlib.Decide.{ℕ_discrete}
use Rattle.std.proofs.lemmas.Bool.{false≢true}
use Rattle.std.proofs.lemmas.List.Elements.{filter-append}
use Rattle.mc_turn.specs.Lists.{times, total}
use Rattle.mc_writers.specs.Tooks.{Each, Took, IsRising, made_places, next_of, places_if, width}

pub each_append : {A : Type 0} (P : A → Type 0) (xs ys : List A) → Each P xs → Each P ys → Each P (xs ++ ys)
each_append P [] ys a b = b
each_append P (x ∷ xs) ys a b = (a.0, each_append P xs ys a.1 b)

pub each_more : {A : Type 0} (P Q : A → Type 0) (xs : List A) → ((x : A) → P x → Q x) → Each P xs → Each Q xs
each_more P Q [] f a = tt
each_more P Q (x ∷ xs) f a = (f x a.0, each_more P Q xs f a.1)

pub filter_yes : {A : Type 0} (p : A → Bool) (x : A) (xs : List A) → p x ≡ true → filter p (x ∷ xs) ≡ x ∷ filter p xs
filter_yes p x xs e = ap (λ b. cond b (x ∷ filter p xs) (filter p xs)) e

pub filter_no : {A : Type 0} (p : A → Bool) (x : A) (xs : List A) → p x ≡ false → filter p (x ∷ xs) ≡ filter p xs
filter_no p x xs e = ap (λ b. cond b (x ∷ filter p xs) (filter p xs)) e

pub filter_twice : {A : Type 0} (p q : A → Bool) (xs : List A) → filter p (filter q xs) ≡ filter q (filter p xs)
filter_twice p q [] = refl
filter_twice p q (x ∷ xs) = go (filter_twice p q xs) (p x) (q x) refl refl
  where
    go : filter p (filter q xs) ≡ filter q (filter p xs) → (a b : Bool) → p x ≡ a → q x ≡ b → filter p (filter q (x ∷ xs)) ≡ filter q (filter p (x ∷ xs))
    go ih true true e f = ap (filter p) (filter_yes q x xs f) ∙ filter_yes p x (filter q xs) e ∙ ap (λ l. x ∷ l) ih ∙ sym (filter_yes q x (filter p xs) f) ∙ sym (ap (filter q) (filter_yes p x xs e))
    go ih true false e f = ap (filter p) (filter_no q x xs f) ∙ ih ∙ sym (filter_no q x (filter p xs) f) ∙ sym (ap (filter q) (filter_yes p x xs e))
    go ih false true e f = ap (filter p) (filter_yes q x xs f) ∙ filter_no p x (filter q xs) e ∙ ih ∙ sym (ap (filter q) (filter_no p x xs e))
    go ih false false e f = ap (filter p) (filter_no q x xs f) ∙ ih ∙ sym (ap (filter q) (filter_no p x xs e))

pub filter_map : {A B : Type 0} (f : A → B) (p : B → Bool) (xs : List A) → filter p (map f xs) ≡ map f (filter (λ x. p (f x)) xs)
filter_map f p [] = refl
filter_map f p (x ∷ xs) = go (filter_map f p xs) (p (f x)) refl
  where
    go : filter p (map f xs) ≡ map f (filter (λ x. p (f x)) xs) → (b : Bool) → p (f x) ≡ b → filter p (map f (x ∷ xs)) ≡ map f (filter (λ x. p (f x)) (x ∷ xs))
    go ih true e = filter_yes p (f x) (map f xs) e ∙ ap (λ l. f x ∷ l) ih ∙ sym (ap (map f) (filter_yes (λ x. p (f x)) x xs e))
    go ih false e = filter_no p (f x) (map f xs) e ∙ ih ∙ sym (ap (map f) (filter_no (λ x. p (f x)) x xs e))

pub filter_all : {A : Type 0} (p : A → Bool) (xs : List A) → Each (λ x. p x ≡ true) xs → filter p xs ≡ xs
filter_all p [] a = refl
filter_all p (x ∷ xs) a = filter_yes p x xs a.0 ∙ ap (λ l. x ∷ l) (filter_all p xs a.1)

pub filter_none : {A : Type 0} (p : A → Bool) (xs : List A) → Each (λ x. p x ≡ false) xs → filter p xs ≡ []
filter_none p [] a = refl
filter_none p (x ∷ xs) a = filter_no p x xs a.0 ∙ filter_none p xs a.1

-- what holds of each item holds of each one that passes, and these pass
pub each_filter : {A : Type 0} (P : A → Type 0) (p : A → Bool) (xs : List A) → Each P xs → Each (λ x. P x × (p x ≡ true)) (filter p xs)
each_filter P p [] a = tt
each_filter P p (x ∷ xs) a = go (each_filter P p xs a.1) (p x) refl
  where
    go : Each (λ x. P x × (p x ≡ true)) (filter p xs) → (b : Bool) → p x ≡ b → Each (λ x. P x × (p x ≡ true)) (filter p (x ∷ xs))
    go ih true e = subst (Each (λ x. P x × (p x ≡ true))) (sym (filter_yes p x xs e)) ((a.0, e), ih)
    go ih false e = subst (Each (λ x. P x × (p x ≡ true))) (sym (filter_no p x xs e)) ih

not_true : (b : Bool) → not b ≡ true → b ≡ false
not_true true e = sym e
not_true false e = refl

module _ {C : Type 0} where
  abbrev pub is_still : ℕ → Took C → Bool
  is_still p t = (t.at == p) && not t.adds

  abbrev pub is_adding : ℕ → Took C → Bool
  is_adding p t = (t.at == p) && t.adds

  abbrev pub stills : ℕ → List (Took C) → List (Took C)
  stills p xs = filter (is_still p) xs

  abbrev pub addings : ℕ → List (Took C) → List (Took C)
  addings p xs = filter (is_adding p) xs

  -- those at count places from p on, in the order of their places
  abbrev pub spread : ℕ → ℕ → List (Took C) → List (Took C)
  spread p zero xs = []
  spread p (suc n) xs = stills p xs ++ (addings p xs ++ spread (suc p) n xs)

  pub rising_more : (lo hi high : ℕ) (xs : List (Took C)) → hi ≤ high → IsRising lo hi xs → IsRising lo high xs
  rising_more lo hi high [] le r = tt
  rising_more lo hi high (t ∷ ts) le r = let a = r.1 in (r.0, omega (arith, a, le), rising_more (next_of t) hi high ts le r.2)

  pub rising_later : (lo low hi : ℕ) (xs : List (Took C)) → low ≤ lo → IsRising lo hi xs → IsRising low hi xs
  rising_later lo low hi [] le r = tt
  rising_later lo low hi (t ∷ ts) le r = let a = r.0 in (omega (arith, a, le), r.1, r.2)

  -- more of them, from where these end
  pub rising_append : (lo mid hi : ℕ) (xs ys : List (Took C)) → lo ≤ mid → Each (λ t. next_of t ≤ mid) xs → IsRising lo hi xs → IsRising mid hi ys → IsRising lo hi (xs ++ ys)
  rising_append lo mid hi [] ys le a r s = rising_later mid lo hi ys le s
  rising_append lo mid hi (t ∷ ts) ys le a r s = (r.0, r.1, rising_append (next_of t) mid hi ts ys a.0 a.1 r.2 s)

  spread_nil : (p n : ℕ) → spread p n [] ≡ []
  spread_nil p zero = refl
  spread_nil p (suc n) = spread_nil (suc p) n

  apart : (p : ℕ) (x : Took C) → p < x.at → (x.at == p) ≡ false
  apart p x l = ne_eqb x.at p (λ e. omega (arith, e, l))

  before : (p : ℕ) (x : Took C) → x.at < p → (x.at == p) ≡ false
  before p x l = ne_eqb x.at p (λ e. omega (arith, e, l))

  -- one that stands before is none of them
  spread_before : (p n : ℕ) (x : Took C) (xs : List (Took C)) → x.at < p → spread p n (x ∷ xs) ≡ spread p n xs
  spread_before p zero x xs l = refl
  spread_before p (suc n) x xs l =
      ap (λ s. s ++ (addings p (x ∷ xs) ++ spread (suc p) n (x ∷ xs))) (filter_no (is_still p) x xs (ap (λ b. b && not x.adds) (before p x l)))
      ∙ ap (λ s. stills p xs ++ (s ++ spread (suc p) n (x ∷ xs))) (filter_no (is_adding p) x xs (ap (λ b. b && x.adds) (before p x l)))
      ∙ ap (λ s. stills p xs ++ (addings p xs ++ s)) (spread_before (suc p) n x xs (omega (arith, l)))

  -- none of them is at an earlier place
  none_still : (p lo hi : ℕ) (xs : List (Took C)) → p < lo → IsRising lo hi xs → stills p xs ≡ []
  none_still p lo hi [] l r = refl
  none_still p lo hi (x ∷ xs) l r = let a = r.0 in
      filter_no (is_still p) x xs (ap (λ b. b && not x.adds) (apart p x (omega (arith, a, l)))) ∙ none_still p (next_of x) hi xs (omega (arith, a, l)) r.2

  none_adding : (p lo hi : ℕ) (xs : List (Took C)) → p < lo → IsRising lo hi xs → addings p xs ≡ []
  none_adding p lo hi [] l r = refl
  none_adding p lo hi (x ∷ xs) l r = let a = r.0 in
      filter_no (is_adding p) x xs (ap (λ b. b && x.adds) (apart p x (omega (arith, a, l)))) ∙ none_adding p (next_of x) hi xs (omega (arith, a, l)) r.2

  -- what rises is in its order already
  rises_on : (p n : ℕ) → ((ys : List (Took C)) → IsRising (suc p) (suc p + n) ys → spread (suc p) n ys ≡ ys) → (ys : List (Took C)) → IsRising p (suc p + n) ys → spread p (suc n) ys ≡ ys
  rises_on p n later [] s = spread_nil (suc p) n
  rises_on p n later (x ∷ ys) s = dite (ℕ_discrete x.at p) (λ e. here (rises_on p n later ys) x.adds refl e) (λ ne. let a = s.0 in beyond (omega (arith, ne, a)))
    where
      at_p : x.at ≡ p → (x.at == p) ≡ true
      at_p e = eq-eqb x.at p e

      below : x.at ≡ p → x.at < suc p
      below e = omega (arith, e)

      here : (IsRising p (suc p + n) ys → spread p (suc n) ys ≡ ys) → (b : Bool) → x.adds ≡ b → x.at ≡ p → spread p (suc n) (x ∷ ys) ≡ x ∷ ys
      here ih false b e =
          ap (λ l. l ++ (addings p (x ∷ ys) ++ spread (suc p) n (x ∷ ys))) (filter_yes (is_still p) x ys ((λ i. at_p e i && not (b i))))
          ∙ ap (λ l. x ∷ (stills p ys ++ (l ++ spread (suc p) n (x ∷ ys)))) (filter_no (is_adding p) x ys ((λ i. at_p e i && b i)))
          ∙ ap (λ l. x ∷ (stills p ys ++ (addings p ys ++ l))) (spread_before (suc p) n x ys (below e))
          ∙ ap (λ l. x ∷ l) (ih (rising_later (next_of x) p (suc p + n) ys (omega (arith, e)) s.2))
      here ih true b e =
          let more : IsRising (suc p) (suc p + n) ys = rising_later (next_of x) (suc p) (suc p + n) ys (let w : width x.adds ≡ 1 = ap width b in omega (arith, e, w)) s.2 in
          ap (λ l. l ++ (addings p (x ∷ ys) ++ spread (suc p) n (x ∷ ys))) (filter_no (is_still p) x ys ((λ i. at_p e i && not (b i))) ∙ none_still p (suc p) (suc p + n) ys (omega arith) more)
          ∙ ap (λ l. l ++ spread (suc p) n (x ∷ ys)) (filter_yes (is_adding p) x ys ((λ i. at_p e i && b i)) ∙ ap (λ l. x ∷ l) (none_adding p (suc p) (suc p + n) ys (omega arith) more))
          ∙ ap (λ l. x ∷ l) (spread_before (suc p) n x ys (below e) ∙ later ys more)

      beyond : p < x.at → spread p (suc n) (x ∷ ys) ≡ x ∷ ys
      beyond l =
          let more : IsRising (suc p) (suc p + n) (x ∷ ys) = (l, s.1, s.2) in
          ap (λ m. m ++ (addings p (x ∷ ys) ++ spread (suc p) n (x ∷ ys))) (none_still p (suc p) (suc p + n) (x ∷ ys) (omega arith) more)
          ∙ ap (λ m. m ++ spread (suc p) n (x ∷ ys)) (none_adding p (suc p) (suc p + n) (x ∷ ys) (omega arith) more)
          ∙ later (x ∷ ys) more

  pub spread_same : (p n : ℕ) (xs : List (Took C)) → IsRising p (p + n) xs → spread p n xs ≡ xs
  spread_same p zero [] r = refl
  spread_same p zero (x ∷ xs) r = let a = r.0 in let b = r.1 in absurd (omega (arith, a, b))
  spread_same p (suc n) xs r = rises_on p n (spread_same (suc p) n) xs (subst (λ (h : ℕ). IsRising p h xs) (let e : p + suc n ≡ suc p + n = omega arith in e) r)

  -- those that pass a test are those of the list that pass it
  pub spread_filter : (q : Took C → Bool) (p n : ℕ) (xs : List (Took C)) → filter q (spread p n xs) ≡ spread p n (filter q xs)
  spread_filter q p zero xs = refl
  spread_filter q p (suc n) xs =
      filter-append q (stills p xs) (addings p xs ++ spread (suc p) n xs)
      ∙ ap (λ l. l ++ filter q (addings p xs ++ spread (suc p) n xs)) (filter_twice q (is_still p) xs)
      ∙ ap (λ l. stills p (filter q xs) ++ l) (filter-append q (addings p xs) (spread (suc p) n xs)
      ∙ ap (λ l. l ++ filter q (spread (suc p) n xs)) (filter_twice q (is_adding p) xs)
      ∙ ap (λ l. addings p (filter q xs) ++ l) (spread_filter q (suc p) n xs))

  pub made_append : (xs ys : List (Took C)) → made_places (xs ++ ys) ≡ made_places xs ++ made_places ys
  made_append [] ys = refl
  made_append (x ∷ xs) ys = go (made_append xs ys) x.adds refl
    where
      go : made_places (xs ++ ys) ≡ made_places xs ++ made_places ys → (b : Bool) → x.adds ≡ b → places_if x.adds x.at (made_places (xs ++ ys)) ≡ places_if x.adds x.at (made_places xs) ++ made_places ys
      go ih true e = ap (λ c. places_if c x.at (made_places (xs ++ ys))) e ∙ ap (λ l. x.at ∷ l) ih ∙ sym (ap (λ c. places_if c x.at (made_places xs) ++ made_places ys) e)
      go ih false e = ap (λ c. places_if c x.at (made_places (xs ++ ys))) e ∙ ih ∙ sym (ap (λ c. places_if c x.at (made_places xs) ++ made_places ys) e)

  -- how many add one at a place
  pub adding_count : (p : ℕ) (xs : List (Took C)) → length (addings p xs) ≡ times p (made_places xs)
  adding_count p [] = refl
  adding_count p (x ∷ xs) = dite (ℕ_discrete x.at p) (λ e. go (adding_count p xs) x.adds true refl (eq-eqb x.at p e)) (λ ne. go (adding_count p xs) x.adds false refl (ne_eqb x.at p ne))
    where
      go : length (addings p xs) ≡ times p (made_places xs) → (b c : Bool) → x.adds ≡ b → (x.at == p) ≡ c → length (addings p (x ∷ xs)) ≡ times p (places_if x.adds x.at (made_places xs))
      go ih true true e f = ap length (filter_yes (is_adding p) x xs (λ i. f i && e i)) ∙ ap suc ih ∙ (let q : times p (x.at ∷ []) ≡ 1 = ap (λ b. cond {A = ℕ} b 1 0 + 0) f in let d : suc (times p (made_places xs)) ≡ times p (x.at ∷ made_places xs) = omega (arith, q) in d) ∙ sym (λ i. times p (places_if (e i) x.at (made_places xs)))
      go ih true false e f = ap length (filter_no (is_adding p) x xs (λ i. f i && e i)) ∙ ih ∙ (let q : times p (x.at ∷ []) ≡ 0 = ap (λ b. cond {A = ℕ} b 1 0 + 0) f in let d : times p (made_places xs) ≡ times p (x.at ∷ made_places xs) = omega (arith, q) in d) ∙ sym (λ i. times p (places_if (e i) x.at (made_places xs)))
      go ih false true e f = ap length (filter_no (is_adding p) x xs (λ i. f i && e i)) ∙ ih ∙ sym (λ i. times p (places_if (e i) x.at (made_places xs)))
      go ih false false e f = ap length (filter_no (is_adding p) x xs (λ i. f i && e i)) ∙ ih ∙ sym (λ i. times p (places_if (e i) x.at (made_places xs)))

  pub is_adding_at : (p : ℕ) (t : Took C) → is_adding p t ≡ true → (t.at ≡ p) × (t.adds ≡ true)
  is_adding_at p t h = dite (ℕ_discrete t.at p) (λ e. (e, sym (ap (λ b. b && t.adds) (eq-eqb t.at p e)) ∙ h)) (λ ne. absurd (false≢true (sym (ap (λ b. b && t.adds) (ne_eqb t.at p ne)) ∙ h)))

  pub is_still_at : (p : ℕ) (t : Took C) → is_still p t ≡ true → (t.at ≡ p) × (t.adds ≡ false)
  is_still_at p t h = dite (ℕ_discrete t.at p) (λ e. (e, not_true t.adds (sym (ap (λ b. b && not t.adds) (eq-eqb t.at p e)) ∙ h))) (λ ne. absurd (false≢true (sym (ap (λ b. b && not t.adds) (ne_eqb t.at p ne)) ∙ h)))

  -- just one adds an entry there
  pub record AddsAlone (P : Took C → Type 0) (p : ℕ) (xs : List (Took C)) : Type 0 where
    pub one : Took C
    pub alone : addings p xs ≡ one ∷ []
    pub holds : P one
    pub there : one.at ≡ p
    pub adding : one.adds ≡ true

  alone_in : (P : Took C → Type 0) (p : ℕ) (xs l : List (Took C)) → addings p xs ≡ l → Each (λ x. P x × (is_adding p x ≡ true)) l → length l ≡ 1 → AddsAlone P p xs
  alone_in P p xs [] is e n = absurd (omega (arith, n))
  alone_in P p xs (t ∷ []) is e n = record { one = t; alone = is; holds = e.0.0; there = (is_adding_at p t e.0.1).0; adding = (is_adding_at p t e.0.1).1 }
  alone_in P p xs (t ∷ u ∷ l) is e n = absurd (omega (arith, n))

  pub adding_one : (P : Took C → Type 0) (p : ℕ) (xs : List (Took C)) → Each P xs → times p (made_places xs) ≡ 1 → AddsAlone P p xs
  adding_one P p xs each one = alone_in P p xs (addings p xs) refl (each_filter P (is_adding p) xs each) (adding_count p xs ∙ one)

  no_items : (l : List (Took C)) → length l ≡ 0 → l ≡ []
  no_items [] n = refl
  no_items (x ∷ l) n = absurd (omega (arith, n))

  pub adding_none : (p : ℕ) (xs : List (Took C)) → times p (made_places xs) ≡ 0 → addings p xs ≡ []
  adding_none p xs none = no_items (addings p xs) (adding_count p xs ∙ none)

  -- the last place by itself
  pub spread_end : (p n : ℕ) (xs : List (Took C)) → addings (p + n) xs ≡ [] → spread p (suc n) xs ≡ spread p n xs ++ stills (p + n) xs
  spread_end p zero xs none =
      let e : p + 0 ≡ p = omega arith in
      ap (λ l. stills p xs ++ (l ++ [])) (ap (λ q. addings q xs) (sym e) ∙ none) ∙ append-nil (stills p xs) ∙ ap (λ q. stills q xs) (sym e)
  spread_end p (suc n) xs none =
      let e : p + suc n ≡ suc p + n = omega arith in
      ap (λ l. stills p xs ++ (addings p xs ++ l)) (spread_end (suc p) n xs (ap (λ q. addings q xs) (sym e) ∙ none) ∙ ap (λ q. spread (suc p) n xs ++ stills q xs) (sym e))
      ∙ sym (ap (λ l. stills p xs ++ l) (append_assoc (addings p xs) (spread (suc p) n xs) (stills (p + suc n) xs)))
      ∙ sym (append_assoc (stills p xs) (addings p xs ++ spread (suc p) n xs) (stills (p + suc n) xs))

  -- what is added up over them is what is added up over the list
  pub total_append : (f : Took C → ℕ) (xs ys : List (Took C)) → total f (xs ++ ys) ≡ total f xs + total f ys
  total_append f [] ys = omega arith
  total_append f (x ∷ xs) ys = let h = total_append f xs ys in omega (arith, h)

  total_spread : (f : Took C → ℕ) (p n : ℕ) (xs : List (Took C)) → total f (spread p (suc n) xs) ≡ total f (stills p xs) + total f (addings p xs) + total f (spread (suc p) n xs)
  total_spread f p n xs = let a = total_append f (stills p xs) (addings p xs ++ spread (suc p) n xs) in let b = total_append f (addings p xs) (spread (suc p) n xs) in omega (arith, a, b)

  total_on : (f : Took C → ℕ) (p n : ℕ) (x : Took C) (xs : List (Took C)) → p ≤ x.at → x.at < p + n → total f (spread p n (x ∷ xs)) ≡ f x + total f (spread p n xs)
  total_on f p zero x xs l h = absurd (omega (arith, l, h))
  total_on f p (suc n) x xs l h = dite (ℕ_discrete x.at p) (λ e. here x.adds refl (eq-eqb x.at p e) (omega (arith, e)))
      (λ ne. later (total_on f (suc p) n x xs (omega (arith, l, ne)) (omega (arith, h))) (ne_eqb x.at p ne))
    where
      here : (b : Bool) → x.adds ≡ b → (x.at == p) ≡ true → x.at < suc p → total f (spread p (suc n) (x ∷ xs)) ≡ f x + total f (spread p (suc n) xs)
      here true b e low =
          let s : total f (stills p (x ∷ xs)) ≡ total f (stills p xs) = ap (total f) (filter_no (is_still p) x xs (λ i. e i && not (b i))) in
          let a : total f (addings p (x ∷ xs)) ≡ f x + total f (addings p xs) = ap (total f) (filter_yes (is_adding p) x xs (λ i. e i && b i)) in
          let r : total f (spread (suc p) n (x ∷ xs)) ≡ total f (spread (suc p) n xs) = ap (total f) (spread_before (suc p) n x xs low) in
          let t = total_spread f p n (x ∷ xs) in let u = total_spread f p n xs in omega (arith, s, a, r, t, u)
      here false b e low =
          let s : total f (stills p (x ∷ xs)) ≡ f x + total f (stills p xs) = ap (total f) (filter_yes (is_still p) x xs (λ i. e i && not (b i))) in
          let a : total f (addings p (x ∷ xs)) ≡ total f (addings p xs) = ap (total f) (filter_no (is_adding p) x xs (λ i. e i && b i)) in
          let r : total f (spread (suc p) n (x ∷ xs)) ≡ total f (spread (suc p) n xs) = ap (total f) (spread_before (suc p) n x xs low) in
          let t = total_spread f p n (x ∷ xs) in let u = total_spread f p n xs in omega (arith, s, a, r, t, u)

      later : total f (spread (suc p) n (x ∷ xs)) ≡ f x + total f (spread (suc p) n xs) → (x.at == p) ≡ false → total f (spread p (suc n) (x ∷ xs)) ≡ f x + total f (spread p (suc n) xs)
      later ih e =
          let s : total f (stills p (x ∷ xs)) ≡ total f (stills p xs) = ap (total f) (filter_no (is_still p) x xs (ap (λ b. b && not x.adds) e)) in
          let a : total f (addings p (x ∷ xs)) ≡ total f (addings p xs) = ap (total f) (filter_no (is_adding p) x xs (ap (λ b. b && x.adds) e)) in
          let t = total_spread f p n (x ∷ xs) in let u = total_spread f p n xs in omega (arith, s, a, ih, t, u)

  pub total_same : (f : Took C → ℕ) (p n : ℕ) (xs : List (Took C)) → Each (λ t. (p ≤ t.at) × (t.at < p + n)) xs → total f (spread p n xs) ≡ total f xs
  total_same f p n [] a = ap (total f) (spread_nil p n)
  total_same f p n (x ∷ xs) a = let h = total_on f p n x xs a.0.0 a.0.1 in let i = total_same f p n xs a.1 in omega (arith, h, i)
