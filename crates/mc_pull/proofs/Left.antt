-- What the workers of a round leave of their fetches.
use Rattle.std.proofs.Common.{◌≡◌, ◌<◌, ◌≤◌, ℕ, zero, suc, Bool, true, false, ◌||◌, List, [], ◌∷◌, length, map, All, slice_index_or, Option, refl, sym, ap, ◌∙◌, subst, arith, inl, inr}
use Rattle.std.specs.List.{AllZip, list_any}
use Rattle.std.proofs.lemmas.Bool.{false≢true, or_cases}
use Rattle.mc_base.specs.Causes.{Rose}
use Rattle.mc_fetch.specs.Calls.{Asks, Members}
use Rattle.mc_fetch.specs.Fits.{Map}
use Rattle.mc_fetch.specs.Offers.{Offered, found_by}
use Rattle.mc_fetch.proofs.AskFacts.{asks_more, asks_none}
use Rattle.mc_worker.specs.declared.ends.HandEnd.{HandEnd}
use Rattle.mc_worker.specs.Ends.{is_peer}
use Rattle.mc_drain.specs.Finds.{finds_by}
use Rattle.mc_pull.specs.Hands.{FetchLeft, SomeRose, first_finds, found_first}

-- the relation of each two
pub zip_map : {F H : Type 0} (R : H → H → Type 0) (S : F → F → Type 0) (fetch : H → F) → ((x y : H) → R x y → S (fetch x) (fetch y)) → (xs ys : List H) → AllZip R xs ys → AllZip S (map fetch xs) (map fetch ys)
zip_map R S fetch each [] [] all = tt
zip_map R S fetch each [] (y ∷ ys) all = absurd all
zip_map R S fetch each (x ∷ xs) [] all = absurd all
zip_map R S fetch each (x ∷ xs) (y ∷ ys) all = (each x y all.0, zip_map R S fetch each xs ys all.1)

pub zip_by : {F : Type 0} {R S : F → F → Type 0} (xs ys : List F) → AllZip R xs ys → ((x y : F) → R x y → S x y) → AllZip S xs ys
zip_by [] [] all each = tt
zip_by [] (y ∷ ys) all each = absurd all
zip_by (x ∷ xs) [] all each = absurd all
zip_by {R = R} {S = S} (x ∷ xs) (y ∷ ys) all each = (each x y all.0, zip_by {R = R} {S = S} xs ys all.1 each)

pub zip_same : {F : Type 0} (S : F → F → Type 0) → ((f : F) → S f f) → (fs : List F) → AllZip S fs fs
zip_same S s [] = tt
zip_same S s (f ∷ fs) = (s f, zip_same S s fs)

pub zip_then : {F : Type 0} (R S T : F → F → Type 0) → ((x y z : F) → R x y → S y z → T x z) → (xs ys zs : List F) → AllZip R xs ys → AllZip S ys zs → AllZip T xs zs
zip_then R S T each [] [] [] a b = tt
zip_then R S T each [] [] (z ∷ zs) a b = absurd b
zip_then R S T each [] (y ∷ ys) zs a b = absurd a
zip_then R S T each (x ∷ xs) [] zs a b = absurd a
zip_then R S T each (x ∷ xs) (y ∷ ys) [] a b = absurd b
zip_then R S T each (x ∷ xs) (y ∷ ys) (z ∷ zs) a b = (each x y z a.0 b.0, zip_then R S T each xs ys zs a.1 b.1)

pub zip_length : {F : Type 0} (R : F → F → Type 0) (xs ys : List F) → AllZip R xs ys → length ys ≡ length xs
zip_length R [] [] all = refl
zip_length R [] (y ∷ ys) all = absurd all
zip_length R (x ∷ xs) [] all = absurd all
zip_length R (x ∷ xs) (y ∷ ys) all = ap suc (zip_length R xs ys all.1)

-- each of the second ones
pub zip_second : {H : Type 0} (R : H → H → Type 0) (P : H → Type 0) → ((x y : H) → R x y → P y) → (xs ys : List H) → AllZip R xs ys → All P ys
zip_second R P each [] [] all = λ k d less. absurd (omega (arith, less))
zip_second R P each [] (y ∷ ys) all = absurd all
zip_second R P each (x ∷ xs) [] all = absurd all
zip_second {H} R P each (x ∷ xs) (y ∷ ys) all = λ k d less. place (zip_second R P each xs ys all.1) k d less
  where
    place : All P ys → (k : ℕ) (d : H) → k < length (y ∷ ys) → P (slice_index_or (y ∷ ys) k d)
    place rest zero d less = each x y all.0
    place rest (suc k) d less = rest k d (omega (arith, less))

neither : (a b : Bool) → (a || b) ≡ false → (a ≡ false) × (b ≡ false)
neither true b e = absurd (false≢true (sym e))
neither false b e = (refl, e)

module _ {F : Type 0} (f : Members F) where
  -- the hands of a round
  module _ {H : Type 0} (R : H → H → Type 0) (fetch : H → F) (end : H → HandEnd) (asked : (x y : H) → R x y → Asks f (is_peer (end y)) (fetch x) (fetch y)) where
    pub hands_left : (xs ys : List H) → AllZip R xs ys → AllZip (FetchLeft f) (map fetch xs) (map fetch ys)
    hands_left xs ys all = zip_map R (FetchLeft f) fetch (λ x y r. record { failed = is_peer (end y); asked = asked x y r }) xs ys all

    pub hands_calm : (xs ys : List H) → AllZip R xs ys → list_any is_peer (map end ys) ≡ false → AllZip (Asks f false) (map fetch xs) (map fetch ys)
    hands_calm [] [] all none = tt
    hands_calm [] (y ∷ ys) all none = absurd all
    hands_calm (x ∷ xs) [] all none = absurd all
    hands_calm (x ∷ xs) (y ∷ ys) all none =
        let both = neither (is_peer (end y)) (list_any is_peer (map end ys)) none in
        (subst (λ (t : Bool). Asks f t (fetch x) (fetch y)) both.0 (asked x y all.0), hands_calm xs ys all.1 both.1)

    pub hands_rose : (xs ys : List H) → AllZip R xs ys → list_any is_peer (map end ys) ≡ true → SomeRose f.faults (map fetch xs) (map fetch ys)
    hands_rose [] [] all some = absurd (false≢true some)
    hands_rose [] (y ∷ ys) all some = absurd all
    hands_rose (x ∷ xs) [] all some = absurd all
    hands_rose (x ∷ xs) (y ∷ ys) all some = elim (or_cases (is_peer (end y)) (list_any is_peer (map end ys)) some) [
      | inl e ↦ inl ((asked x y all.0).faults_go.rose e)
      | inr e ↦ inr (hands_rose xs ys all.1 e)
    ]

  -- nobody was asked
  pub calm_itself : ((fetch : F) → f.follows fetch fetch) → (fs : List F) → AllZip (Asks f false) fs fs
  calm_itself same fs = zip_same (Asks f false) (λ fetch. asks_none same fetch) fs

  pub left_calm : (xs ys : List F) → AllZip (Asks f false) xs ys → AllZip (FetchLeft f) xs ys
  left_calm [] [] all = tt
  left_calm [] (y ∷ ys) all = absurd all
  left_calm (x ∷ xs) [] all = absurd all
  left_calm (x ∷ xs) (y ∷ ys) all = (record { failed = false; asked = all.0 }, left_calm xs ys all.1)

  pub left_itself : ((fetch : F) → f.follows fetch fetch) → (fs : List F) → AllZip (FetchLeft f) fs fs
  left_itself same fs = left_calm fs fs (calm_itself same fs)

  -- the first was asked, and no other
  pub left_first : ((fetch : F) → f.follows fetch fetch) → (failed : Bool) (x y : F) (fs : List F) → Asks f failed x y → AllZip (FetchLeft f) (x ∷ fs) (y ∷ fs)
  left_first same failed x y fs asked = (record { failed = failed; asked = asked }, left_itself same fs)

  pub left_at : ((fetch : F) → f.follows fetch fetch) → (failed : Bool) (x y : F) (fs all : List F) → all ≡ x ∷ fs → Asks f failed x y → AllZip (FetchLeft f) all (y ∷ fs)
  left_at same failed x y fs all is asked = subst (λ l. AllZip (FetchLeft f) l (y ∷ fs)) (sym is) (left_first same failed x y fs asked)

  -- and did not fail
  pub calm_at : ((fetch : F) → f.follows fetch fetch) → (failed : Bool) (x y : F) (fs all : List F) → all ≡ x ∷ fs → Asks f failed x y → failed ≡ false → AllZip (Asks f false) all (y ∷ fs)
  calm_at same failed x y fs all is asked well = subst (λ l. AllZip (Asks f false) l (y ∷ fs)) (sym is) (subst (λ (b : Bool). Asks f b x y) well asked, calm_itself same fs)

  -- calls after calls of which none failed
  pub left_more : ((first second third : F) → f.follows first second → f.follows second third → f.follows first third) → (xs ys zs : List F) → AllZip (Asks f false) xs ys → AllZip (FetchLeft f) ys zs → AllZip (FetchLeft f) xs zs
  left_more on xs ys zs a b = zip_then (Asks f false) (FetchLeft f) (FetchLeft f) (λ x y z p q. record { failed = q.failed; asked = asks_more on p q.asked }) xs ys zs a b

  pub calm_more : ((first second third : F) → f.follows first second → f.follows second third → f.follows first third) → (xs ys zs : List F) → AllZip (Asks f false) xs ys → AllZip (Asks f false) ys zs → AllZip (Asks f false) xs zs
  calm_more on xs ys zs a b = zip_then (Asks f false) (Asks f false) (Asks f false) (λ x y z p q. asks_more on p q) xs ys zs a b

  pub rose_more : (xs ys zs : List F) → AllZip (Asks f false) xs ys → SomeRose f.faults ys zs → SomeRose f.faults xs zs
  rose_more [] [] zs a rose = absurd rose
  rose_more [] (y ∷ ys) zs a rose = absurd a
  rose_more (x ∷ xs) [] zs a rose = absurd a
  rose_more (x ∷ xs) (y ∷ ys) [] a rose = absurd rose
  rose_more (x ∷ xs) (y ∷ ys) (z ∷ zs) a (inl rose) = inl (subst (λ (n : ℕ). Rose n (f.faults z)) (a.0.faults_go.still refl) rose)
  rose_more (x ∷ xs) (y ∷ ys) (z ∷ zs) a (inr rose) = inr (rose_more xs ys zs a.1 rose)

  -- what the first finds is as before
  pub found_left : (xs ys : List F) → AllZip (FetchLeft f) xs ys → found_first f.offers ys ≡ found_first f.offers xs
  found_left [] [] all = refl
  found_left [] (y ∷ ys) all = absurd all
  found_left (x ∷ xs) [] all = absurd all
  found_left (x ∷ xs) (y ∷ ys) all = ap found_by all.0.asked.offers_same

  -- and all that is known of that
  pub finds_left : (xs ys : List F) → AllZip (FetchLeft f) xs ys → first_finds f.offers f.leading ys ≡ first_finds f.offers f.leading xs
  finds_left [] [] all = refl
  finds_left [] (y ∷ ys) all = absurd all
  finds_left (x ∷ xs) [] all = absurd all
  finds_left (x ∷ xs) (y ∷ ys) all = ap (λ (o : Option Offered). finds_by o (f.leading y)) all.0.asked.offers_same ∙ ap (λ (o : Offered). finds_by (f.offers x) o) all.0.asked.leading_same

  -- each of them finds what the first finds, as before
  each_same : (o : Option Map) (xs ys : List F) → AllZip (FetchLeft f) xs ys → All (λ x. found_by (f.offers x) ≡ o) xs → All (λ y. found_by (f.offers y) ≡ o) ys
  each_same o [] [] all same = λ k d less. absurd (omega (arith, less))
  each_same o [] (y ∷ ys) all same = absurd all
  each_same o (x ∷ xs) [] all same = absurd all
  each_same o (x ∷ xs) (y ∷ ys) all same = λ k d less. place (each_same o xs ys all.1 (λ k d less. same (suc k) d (omega (arith, less)))) k d less
    where
      place : All (λ z. found_by (f.offers z) ≡ o) ys → (k : ℕ) (d : F) → k < length (y ∷ ys) → found_by (f.offers (slice_index_or (y ∷ ys) k d)) ≡ o
      place rest zero d less = ap found_by all.0.asked.offers_same ∙ same 0 x (omega arith)
      place rest (suc k) d less = rest k d (omega (arith, less))

  pub still_same : (xs ys : List F) → AllZip (Asks f false) xs ys → All (λ x. found_by (f.offers x) ≡ found_first f.offers xs) xs → All (λ y. found_by (f.offers y) ≡ found_first f.offers ys) ys
  still_same xs ys calm same =
      let left = left_calm xs ys calm in
      subst (λ (o : Option Map). All (λ y. found_by (f.offers y) ≡ o) ys) (sym (found_left xs ys left)) (each_same (found_first f.offers xs) xs ys left same)

  pub few_left : (xs ys : List F) → AllZip (Asks f false) xs ys → length xs ≤ 16 → length ys ≤ 16
  few_left xs ys calm few = let same = zip_length (Asks f false) xs ys calm in omega (arith, same, few)

pub all_first : {F : Type 0} (offers : F → Option Offered) (leading : F → Offered) (xs : List F) → found_first offers xs ≡ (first_finds offers leading xs).all
all_first offers leading [] = refl
all_first offers leading (x ∷ xs) = refl

-- the same of lists that were made of the hands
pub lists_left : {F : Type 0} (R : F → F → Type 0) {xs ys before after : List F} → before ≡ xs → after ≡ ys → AllZip R before ys → AllZip R xs after
lists_left R {xs = xs} {ys = ys} was is all = subst (λ l. AllZip R xs l) (sym is) (subst (λ l. AllZip R l ys) was all)

pub lists_rose : {F : Type 0} (faults : F → ℕ) {xs ys before after : List F} → before ≡ xs → after ≡ ys → SomeRose faults before ys → SomeRose faults xs after
lists_rose faults {xs = xs} {ys = ys} was is rose = subst (λ l. SomeRose faults xs l) (sym is) (subst (λ l. SomeRose faults l ys) was rose)
