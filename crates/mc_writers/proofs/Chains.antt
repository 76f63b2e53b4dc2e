-- Calls that are each taken at a place of a log, run in the order of their places.
use Rattle.std.proofs.Common.{◌≡◌, ◌≤◌, ◌<◌, ◌+◌, ℕ, zero, suc, true, List, [], ◌∷◌, ◌++◌, map, Option, Some, None, refl, sym, ap, subst, arith}
use Rattle.std.proofs.lemmas.List.{map-append}
use Rattle.mc_base.specs.Told.{Told}
use Rattle.mc_turn.specs.Lists.{times}
use Rattle.mc_storm.specs.Interleavings.{InTurn}
use Rattle.mc_writers.specs.Tooks.{Each, Took, made_places, next_of, width}
use Rattle.mc_writers.proofs.Spread.{AddsAlone, addings, adding_one, each_filter, is_still, is_still_at, spread, spread_end, stills}

module _ {C S : Type 0} (Acts : C → S → S → Type 0) where
  pub run_append : (xs ys : List C) (a b c : S) → InTurn Acts xs a b → InTurn Acts ys b c → InTurn Acts (xs ++ ys) a c
  run_append [] ys a b c x y = subst (λ (s : S). InTurn Acts ys s c) x y
  run_append (call ∷ xs) ys a b c x y = (x.0, x.1, run_append xs ys x.0 b c x.2 y)

  abbrev pub Runs : Option S → Option S → List (Took C) → Type 0
  Runs a b xs = Told a b (InTurn Acts (map (λ t. t.call) xs))

  pub runs_append : (a b c : Option S) (xs ys : List (Took C)) → Runs a b xs → Runs b c ys → Runs a c (xs ++ ys)
  runs_append None b c xs ys x y = tt
  runs_append (Some a) None c xs ys x y = absurd x
  runs_append (Some a) (Some b) None xs ys x y = absurd y
  runs_append (Some a) (Some b) (Some c) xs ys x y = subst (λ (l : List C). InTurn Acts l a c) (sym (map-append (λ (t : Took C). t.call) xs ys)) (run_append (map (λ t. t.call) xs) (map (λ t. t.call) ys) a b c x y)

  pub runs_none : (a : Option S) → Runs a a []
  runs_none None = tt
  runs_none (Some a) = refl

  pub runs_one : (a b : Option S) (t : Took C) → Told a b (Acts t.call) → Runs a b (t ∷ [])
  runs_one None b t x = tt
  runs_one (Some a) None t x = absurd x
  runs_one (Some a) (Some b) t x = (b, x, refl)

  module _ (moment : ℕ → Option S) where
    -- a call is over the moment of its place, and leaves that of the next one
    abbrev pub Fits : Took C → Type 0
    Fits t = Told (moment t.at) (moment (next_of t)) (Acts t.call)

    fits_at : (t : Took C) (p q : ℕ) → t.at ≡ p → next_of t ≡ q → Fits t → Told (moment p) (moment q) (Acts t.call)
    fits_at t p q e f x = subst (λ (n : ℕ). Told (moment p) (moment n) (Acts t.call)) f (subst (λ (n : ℕ). Told (moment n) (moment (next_of t)) (Acts t.call)) e x)

    runs_still : (p : ℕ) (xs : List (Took C)) → Each (λ t. Fits t × (is_still p t ≡ true)) xs → Runs (moment p) (moment p) xs
    runs_still p [] a = runs_none (moment p)
    runs_still p (t ∷ ts) a =
        let s = is_still_at p t a.0.1 in
        let w : width t.adds ≡ 0 = ap width s.1 in
        let n : next_of t ≡ p = let e = s.0 in omega (arith, e, w) in
        runs_append (moment p) (moment p) (moment p) (t ∷ []) ts (runs_one (moment p) (moment p) t (fits_at t p p s.0 n a.0.0)) (runs_still p ts a.1)

    runs_adding : (p : ℕ) (xs : List (Took C)) → AddsAlone Fits p xs → Runs (moment p) (moment (suc p)) (addings p xs)
    runs_adding p xs a =
        let w : width a.one.adds ≡ 1 = ap width a.adding in
        let n : next_of a.one ≡ suc p = let e = a.there in omega (arith, e, w) in
        subst (Runs (moment p) (moment (suc p))) (sym a.alone) (runs_one (moment p) (moment (suc p)) a.one (fits_at a.one p (suc p) a.there n a.holds))

    -- where each place has one call that adds its entry, the calls run in their order
    pub runs_spread : (p n : ℕ) (xs : List (Took C)) → Each Fits xs → ((q : ℕ) → p ≤ q → q < p + n → times q (made_places xs) ≡ 1) → Runs (moment p) (moment (p + n)) (spread p n xs)
    runs_spread p zero xs fits one = subst (λ (q : ℕ). Runs (moment p) (moment q) []) (let e : p ≡ p + 0 = omega arith in e) (runs_none (moment p))
    runs_spread p (suc n) xs fits one =
        let e : suc p + n ≡ p + suc n = omega arith in
        let rest : Runs (moment (suc p)) (moment (suc p + n)) (spread (suc p) n xs) = runs_spread (suc p) n xs fits (λ q l h. one q (omega (arith, l)) (omega (arith, h))) in
        let more : Runs (moment (suc p)) (moment (p + suc n)) (spread (suc p) n xs) = subst (λ (q : ℕ). Runs (moment (suc p)) (moment q) (spread (suc p) n xs)) e rest in
        runs_append (moment p) (moment p) (moment (p + suc n)) (stills p xs) (addings p xs ++ spread (suc p) n xs)
        (runs_still p (stills p xs) (each_filter Fits (is_still p) xs fits))
        (runs_append (moment p) (moment (suc p)) (moment (p + suc n)) (addings p xs) (spread (suc p) n xs) (runs_adding p xs (adding_one Fits p xs fits (one p (omega arith) (omega arith)))) more)

    pub runs_all : (p n : ℕ) (xs : List (Took C)) → Each Fits xs → ((q : ℕ) → p ≤ q → q < p + n → times q (made_places xs) ≡ 1) → addings (p + n) xs ≡ [] → Runs (moment p) (moment (p + n)) (spread p (suc n) xs)
    runs_all p n xs fits one none =
        subst (Runs (moment p) (moment (p + n))) (sym (spread_end p n xs none))
        (runs_append (moment p) (moment (p + n)) (moment (p + n)) (spread p n xs) (stills (p + n) xs) (runs_spread p n xs fits one) (runs_still (p + n) (stills (p + n) xs) (each_filter Fits (is_still (p + n)) xs fits)))
