-- A comparison of two replicas.
use Rattle.std.proofs.Common.{◌≡◌, ◌≤◌, ◌<◌, ◌+◌, ◌-◌, ℕ, zero, suc, Bool, true, false, true≢false, List, [], ◌∷◌, Option, Some, None, Err, refl, sym, ap, subst, ◌∙◌, inl, inr, ◌⊎◌, set, length, take, arith}
use Rattle.std.specs.Prelude.{◌^◌, ◌↔◌, IfSome, get_or, is_some, unwrap_or}
use Rattle.std.specs.List.{AllZip, list_all, slice_get}
use Rattle.std.specs.Option.{option_and_then}
use Rattle.std.proofs.lemmas.List.Folds.{list_all_more}
use Rattle.std.proofs.lemmas.Option.{get_or_from_slice_get, slice_get_within}
use Rattle.std.proofs.lemmas.Slice.Zip.{AllZip-long}
use Rattle.mc_base.specs.declared.cid.Cid.{Cid}
use Rattle.mc_base.specs.declared.counted.Counted as counted
use Rattle.mc_keep.specs.Calls.{Members}
use Rattle.mc_keep.specs.declared.fuse.Fuse.{Fuse}
use Rattle.mc_keep.specs.declared.keeper.Keeper as keeper
use Rattle.mc_model.specs.Graph.{has}
use Rattle.mc_model.specs.Kept.{Kept}
use Rattle.mc_core.specs.Counted.{capped}
use Rattle.mc_acts.specs.declared.sames.CompareError.{CompareError}
use Rattle.mc_acts.specs.declared.sames.CompareError.TheVariants.{Fault, TooMany}
use Rattle.mc_seats.specs.declared.seat.Held.TheVariants.{Up, Down}
use Rattle.mc_seats.specs.declared.seat.Seat.{Seat}
use Rattle.mc_seats.specs.Keepers.{keeper_in, keeper_of}
use Rattle.mc_acts.specs.Sames.{AllStay, Compares, FailsAt, IfBoth, IsUpAt, SeatFails, SeatStays, all_in, content_at, is_in, is_up_seat}
use Rattle.mc_seats.specs.Words.{place}
use Rattle.mc_seats.specs.Worlds.{Place, is_up, place_with, places_of}
use Rattle.mc_seats.proofs.GoesFacts.{keeper_still, keeper_then}
use Rattle.mc_seats.proofs.SeatFacts.{both, first, rest}

pub zip_self : {A : Type 0} (R : A → A → Type 0) → ((x : A) → R x x) → (xs : List A) → AllZip R xs xs
zip_self R self [] = tt
zip_self R self (x ∷ xs) = (self x, zip_self R self xs)

pub zip_set : {A : Type 0} (R : A → A → Type 0) → ((x : A) → R x x) → (xs : List A) (r : ℕ) (x y : A) → slice_get xs r ≡ Some x → R x y → AllZip R xs (set xs r y)
zip_set R self [] r x y is holds = tt
zip_set R self (z ∷ xs) zero x y is holds = (subst (λ a. R a y) (sym (ap (λ o. unwrap_or o z) is)) holds, zip_self R self xs)
zip_set R self (z ∷ xs) (suc r) x y is holds = (self z, zip_set R self xs r x y is holds)

pub zip_then : {A : Type 0} (R : A → A → Type 0) → ((x y z : A) → R x y → R y z → R x z) → (xs ys zs : List A) → AllZip R xs ys → AllZip R ys zs → AllZip R xs zs
zip_then R join [] [] [] e f = tt
zip_then R join (x ∷ xs) [] zs e f = absurd e
zip_then R join [] (y ∷ ys) zs e f = absurd e
zip_then R join (x ∷ xs) (y ∷ ys) [] e f = absurd f
zip_then R join [] [] (z ∷ zs) e f = absurd f
zip_then R join (x ∷ xs) (y ∷ ys) (z ∷ zs) e f = (join x y z e.0 f.0, zip_then R join xs ys zs e.1 f.1)

module _ {K D : Type 0} {g : keeper.Ghosts K D} {h : counted.Ghosts K} {i : counted.Ghosts D} where
  -- what is read of one among others
  pub read_told : (told : K → Option Kept) (xs : List (Seat K D g h i)) (r : ℕ) (x : Seat K D g h i) (P : Kept → Type 0) → slice_get xs r ≡ Some x → IfSome (told (keeper_of x)) P → IfSome (content_at told xs r) P
  read_told told xs r x P is holds = subst (λ (o : Option (Seat K D g h i)). IfSome (option_and_then (λ (seat : Seat K D g h i). told (keeper_of seat)) o) P) (sym is) holds

  pub up_read : (told : K → Option Kept) (fuse : K → Option Fuse) (xs : List (Seat K D g h i)) (r : ℕ) (x : Seat K D g h i) → slice_get xs r ≡ Some x → IsUpAt told fuse xs r → is_up_seat told fuse x ≡ true
  up_read told fuse xs r x is up = subst (λ (o : Option (Seat K D g h i)). IfSome o (λ seat. is_up_seat told fuse seat ≡ true)) is up

-- a block at a place, and whether another list has it
pub in_is : (first second : Option Kept) (block : Option Cid) (n : ℕ) → IfSome first (λ kept. block ≡ slice_get kept.order n) → block ≡ None → IfBoth first second (λ s t. false ≡ is_in (slice_get s.order n) t.order)
in_is None second block n p none = tt
in_is (Some s) None block n p none = tt
in_is (Some s) (Some t) block n p none = ap (λ (o : Option Cid). is_in o t.order) (sym none ∙ p)

pub in_found : (first second mid : Option Kept) (block : Option Cid) (cid : Cid) (n : ℕ) (found : Bool) → IfSome first (λ kept. block ≡ slice_get kept.order n) → block ≡ Some cid → mid ≡ second → IfSome mid (λ kept. found ≡ has cid kept.order) → IfBoth first second (λ s t. found ≡ is_in (slice_get s.order n) t.order)
in_found None second mid block cid n found p some same f = tt
in_found (Some s) None mid block cid n found p some same f = tt
in_found (Some s) (Some t) mid block cid n found p some same f = (subst (λ (o : Option Kept). IfSome o (λ kept. found ≡ has cid kept.order)) same f) ∙ ap (λ (o : Option Cid). is_in o t.order) (sym some ∙ p)

-- a step of a comparison, over what is told

none_yet : (first second : Option Kept) → IfBoth first second (λ s t. list_all (λ c. has c t.order) (take 0 s.order) ≡ true)
none_yet None second = tt
none_yet (Some s) None = tt
none_yet (Some s) (Some t) = refl

both_by : (first second first_now second_now : Option Kept) (P : Kept → Kept → Type 0) → first_now ≡ first → second_now ≡ second → IfBoth first_now second_now P → IfBoth first second P
both_by first second first_now second_now P a b holds = subst (λ (o : Option Kept). IfBoth first o P) b (subst (λ (o : Option Kept). IfBoth o second_now P) a holds)

all_more : (test : Cid → Bool) (xs : List Cid) (n : ℕ) (c : Cid) → slice_get xs n ≡ Some c → list_all test (take n xs) ≡ true → test c ≡ true → list_all test (take (n + 1) xs) ≡ true
all_more test xs n c is so_far here =
    list_all_more test xs n c (slice_get_within xs n c is)
    ∙ both (list_all test (take n xs)) (test (get_or xs n c)) so_far (ap test (get_or_from_slice_get xs n c c is) ∙ here)

one_more : (first second : Option Kept) (n : ℕ) → IfBoth first second (λ s t. list_all (λ c. has c t.order) (take n s.order) ≡ true) → IfBoth first second (λ s t. true ≡ is_in (slice_get s.order n) t.order) → IfBoth first second (λ s t. list_all (λ c. has c t.order) (take (n + 1) s.order) ≡ true)
one_more None second n so_far one = tt
one_more (Some s) None n so_far one = tt
one_more (Some s) (Some t) n so_far one = at_place (slice_get s.order n) refl one
  where
    at_place : (o : Option Cid) → slice_get s.order n ≡ o → true ≡ is_in o t.order → list_all (λ c. has c t.order) (take (n + 1) s.order) ≡ true
    at_place None is one = absurd (true≢false one)
    at_place (Some c) is one = all_more (λ d. has d t.order) s.order n c is so_far (sym one)

all_at : (test : Cid → Bool) (xs : List Cid) (n : ℕ) (c : Cid) → slice_get xs n ≡ Some c → list_all test xs ≡ true → test c ≡ true
all_at test [] n c is all = absurd (true≢false (sym (ap is_some is)))
all_at test (x ∷ xs) zero c is all = subst (λ d. test d ≡ true) (ap (λ o. unwrap_or o x) is) (first (test x) (list_all test xs) all)
all_at test (x ∷ xs) (suc n) c is all = all_at test xs n c is (rest (test x) (list_all test xs) all)

no_get : (xs : List Cid) (n : ℕ) → slice_get xs n ≡ None → n < length xs → ⊥
no_get [] n is below = omega (arith, below)
no_get (x ∷ xs) zero is below = true≢false (ap is_some is)
no_get (x ∷ xs) (suc n) is below = no_get xs n is (omega (arith, below))

not_all : (first second : Option Kept) (count n : ℕ) → n < count → IfSome first (λ s. count ≡ capped (length s.order)) → IfBoth first second (λ s t. false ≡ is_in (slice_get s.order n) t.order) → IfBoth first second (λ s t. false ≡ all_in s.order t.order)
not_all None second count n below counted one = tt
not_all (Some s) None count n below counted one = tt
not_all (Some s) (Some t) count n below counted one = at_place (slice_get s.order n) refl one
  where
    refuted : (b : Bool) → (b ≡ true → ⊥) → false ≡ b
    refuted b never = elim b as (λ x. (x ≡ true → ⊥) → false ≡ x) [ true ↦ λ n. absurd (n refl) | false ↦ λ n. refl ] never

    at_place : (o : Option Cid) → slice_get s.order n ≡ o → false ≡ is_in o t.order → false ≡ all_in s.order t.order
    at_place None is one = absurd (no_get s.order n is (omega (arith, below, counted)))
    at_place (Some c) is one = refuted (all_in s.order t.order) (λ all. true≢false (sym (all_at (λ d. has d t.order) s.order n c is all) ∙ sym one))

take_past : (n : ℕ) (xs : List Cid) → length xs ≤ n → take n xs ≡ xs
take_past n [] long = take_none n
  where
    take_none : (n : ℕ) → take {A = Cid} n [] ≡ []
    take_none zero = refl
    take_none (suc n) = refl
take_past zero (x ∷ xs) long = absurd (omega (arith, long))
take_past (suc n) (x ∷ xs) long = ap (λ l. x ∷ l) (take_past n xs (omega (arith, long)))

all_of : (first second : Option Kept) (count n : ℕ) → count ≤ n → count < 2 ^ 64 - 1 → IfSome first (λ s. count ≡ capped (length s.order)) → IfBoth first second (λ s t. list_all (λ c. has c t.order) (take n s.order) ≡ true) → IfBoth first second (λ s t. true ≡ all_in s.order t.order)
all_of None second count n past few counted so_far = tt
all_of (Some s) None count n past few counted so_far = tt
all_of (Some s) (Some t) count n past few counted so_far = sym (subst (λ l. list_all (λ c. has c t.order) l ≡ true) (take_past n s.order (omega (arith, past, few, counted))) so_far)

-- an answer that says nothing
pub both_any : (first second : Option Kept) (P : Kept → Kept → Type 0) → ((s t : Kept) → P s t) → IfBoth first second P
both_any None second P any = tt
both_any (Some s) None P any = tt
both_any (Some s) (Some t) P any = any s t

-- both are among one another
pub same_none : (first second : Option Kept) → IfBoth first second (λ s t. false ≡ all_in s.order t.order) → IfBoth first second (λ s t. (false ≡ true) ↔ ((all_in s.order t.order ≡ true) × (all_in t.order s.order ≡ true)))
same_none None second none = tt
same_none (Some s) None none = tt
same_none (Some s) (Some t) none = (λ no. absurd (true≢false (sym no)), λ all. none ∙ all.0)

pub same_by : (first second first_mid second_mid : Option Kept) (said : Bool) → first_mid ≡ first → second_mid ≡ second → IfBoth first second (λ s t. true ≡ all_in s.order t.order) → IfBoth second_mid first_mid (λ s t. said ≡ all_in s.order t.order)
    → IfBoth first second (λ s t. (said ≡ true) ↔ ((all_in s.order t.order ≡ true) × (all_in t.order s.order ≡ true)))
same_by first second first_mid second_mid said a b one other =
    joined first second said one (subst (λ (o : Option Kept). IfBoth o first (λ s t. said ≡ all_in s.order t.order)) b (subst (λ (o : Option Kept). IfBoth second_mid o (λ s t. said ≡ all_in s.order t.order)) a other))
  where
    joined : (first second : Option Kept) (said : Bool) → IfBoth first second (λ s t. true ≡ all_in s.order t.order) → IfBoth second first (λ s t. said ≡ all_in s.order t.order) → IfBoth first second (λ s t. (said ≡ true) ↔ ((all_in s.order t.order ≡ true) × (all_in t.order s.order ≡ true)))
    joined None second said one other = tt
    joined (Some s) None said one other = tt
    joined (Some s) (Some t) said one other = (λ is. (sym one, sym other ∙ is), λ all. other ∙ all.1)

module _ {K D : Type 0} {g : keeper.Ghosts K D} {h : counted.Ghosts K} {i : counted.Ghosts D} (k : Members K D) where
  stays_itself : (x : Seat K D g h i) → SeatStays k x x
  stays_itself x = record { same = refl; later = omega arith; goes = keeper_still (keeper_of x) }

  stays_then : (x y z : Seat K D g h i) → SeatStays k x y → SeatStays k y z → SeatStays k x z
  stays_then x y z a b = let first_later = a.later in let next_later = b.later in record {
    same = b.same ∙ a.same;
    later = omega (arith, first_later, next_later);
    goes = keeper_then a.goes b.goes;
  }

  pub all_stay : (xs : List (Seat K D g h i)) → AllStay k xs xs
  all_stay xs = zip_self (SeatStays k) stays_itself xs

  pub stay_one : (xs : List (Seat K D g h i)) (r : ℕ) (x y : Seat K D g h i) → slice_get xs r ≡ Some x → SeatStays k x y → AllStay k xs (set xs r y)
  stay_one xs r x y is stays = zip_set (SeatStays k) stays_itself xs r x y is stays

  pub stay_then : (xs ys zs : List (Seat K D g h i)) → AllStay k xs ys → AllStay k ys zs → AllStay k xs zs
  stay_then xs ys zs a b = zip_then (SeatStays k) stays_then xs ys zs a b

  pub fails_one : (xs : List (Seat K D g h i)) (r : ℕ) (x y : Seat K D g h i) → slice_get xs r ≡ Some x → SeatFails k x y → FailsAt k r xs (set xs r y)
  fails_one xs r x y is fails = record { mid = xs; stay = all_stay xs; falls = record { old = x; new = y; stands = is; after = refl; holds = fails } }

  pub fails_then : (xs ys zs : List (Seat K D g h i)) (r : ℕ) → AllStay k xs ys → FailsAt k r ys zs → FailsAt k r xs zs
  fails_then xs ys zs r a b = record { mid = b.mid; stay = stay_then xs ys b.mid a b.stay; falls = b.falls }

  content_is : (x : Seat K D g h i) → (place k x).content ≡ k.told (keeper_of x)
  content_is x = elim x.held as (λ held. (place_with k.told k.fuse x.planted held).content ≡ k.told (keeper_in held)) [ Up replica ↦ refl | Down idle ↦ refl ]

  -- reads leave what is told, and who runs
  pub content_stays : (xs ys : List (Seat K D g h i)) (j : ℕ) → AllStay k xs ys → content_at k.told ys j ≡ content_at k.told xs j
  content_stays [] [] j a = refl
  content_stays [] (y ∷ ys) j a = absurd a
  content_stays (x ∷ xs) [] j a = absurd a
  content_stays (x ∷ xs) (y ∷ ys) zero a = sym (content_is y) ∙ ap (λ (p : Place). p.content) a.0.same ∙ content_is x
  content_stays (x ∷ xs) (y ∷ ys) (suc j) a = content_stays xs ys j a.1

  pub up_stays : (xs ys : List (Seat K D g h i)) (j : ℕ) → AllStay k xs ys → IsUpAt k.told k.fuse xs j → IsUpAt k.told k.fuse ys j
  up_stays [] [] j a up = up
  up_stays [] (y ∷ ys) j a up = absurd a
  up_stays (x ∷ xs) [] j a up = absurd a
  up_stays (x ∷ xs) (y ∷ ys) zero a up = ap (λ (p : Place). is_up p.run) a.0.same ∙ up
  up_stays (x ∷ xs) (y ∷ ys) (suc j) a up = up_stays xs ys j a.1 up

  pub places_stay : (xs ys : List (Seat K D g h i)) → AllStay k xs ys → places_of k.told k.fuse ys ≡ places_of k.told k.fuse xs
  places_stay [] [] a = refl
  places_stay [] (y ∷ ys) a = absurd a
  places_stay (x ∷ xs) [] a = absurd a
  places_stay (x ∷ xs) (y ∷ ys) a = λ t. a.0.same t ∷ places_stay xs ys a.1 t

  -- the blocks of one are so far among those of another
  pub record IsComparing (start now : List (Seat K D g h i)) (r other count position : ℕ) : Type 0 where
    pub stay : AllStay k start now
    pub low : position ≤ count
    pub so_far : IfBoth (content_at k.told start r) (content_at k.told start other) (λ s t. list_all (λ c. has c t.order) (take position s.order) ≡ true)
    pub counted : IfSome (content_at k.told start r) (λ s. count ≡ capped (length s.order))

  pub comparing_begins : (xs : List (Seat K D g h i)) (r other count : ℕ) → IfSome (content_at k.told xs r) (λ s. count ≡ capped (length s.order)) → IsComparing xs xs r other count 0
  comparing_begins xs r other count counted = record { stay = all_stay xs; low = omega arith; so_far = none_yet (content_at k.told xs r) (content_at k.told xs other); counted = counted }

  pub comparing_on : (start now news : List (Seat K D g h i)) (r other count position : ℕ) → IsComparing start now r other count position → position < count → AllStay k now news
      → IfBoth (content_at k.told now r) (content_at k.told now other) (λ s t. true ≡ is_in (slice_get s.order position) t.order) → IsComparing start news r other count (position + 1)
  comparing_on start now news r other count position is below stay one = record {
    stay = stay_then start now news is.stay stay;
    low = omega (arith, below);
    so_far = one_more (content_at k.told start r) (content_at k.told start other) position is.so_far (both_by (content_at k.told start r) (content_at k.told start other) (content_at k.told now r) (content_at k.told now other) _ (content_stays start now r is.stay) (content_stays start now other is.stay) one);
    counted = is.counted;
  }

  pub comparing_fails : (start now : List (Seat K D g h i)) (r other count position : ℕ) → IsComparing start now r other count position → position < count
      → IfBoth (content_at k.told now r) (content_at k.told now other) (λ s t. false ≡ is_in (slice_get s.order position) t.order) → IfBoth (content_at k.told start r) (content_at k.told start other) (λ s t. false ≡ all_in s.order t.order)
  comparing_fails start now r other count position is below one =
      not_all (content_at k.told start r) (content_at k.told start other) count position below is.counted
      (both_by (content_at k.told start r) (content_at k.told start other) (content_at k.told now r) (content_at k.told now other) _ (content_stays start now r is.stay) (content_stays start now other is.stay) one)

  pub comparing_ends : (start now : List (Seat K D g h i)) (r other count position : ℕ) → IsComparing start now r other count position → count ≤ position → count < 2 ^ 64 - 1
      → IfBoth (content_at k.told start r) (content_at k.told start other) (λ s t. true ≡ all_in s.order t.order)
  comparing_ends start now r other count position is past few = all_of (content_at k.told start r) (content_at k.told start other) count position past few is.counted is.so_far

  pub compares_then : (T : Type 0) (r other : ℕ) (error : CompareError) (xs ys zs : List (Seat K D g h i)) → AllStay k xs ys → Compares k {T = T} r other (Err error) ys zs → Compares k {T = T} r other (Err error) xs zs
  compares_then T r other TooMany xs ys zs a b = stay_then xs ys zs a b
  compares_then T r other (Fault at) xs ys zs a b = (b.0, fails_then xs ys zs at a b.1)

  pub compares_turned : (T : Type 0) (r other : ℕ) (error : CompareError) (xs ys : List (Seat K D g h i)) → Compares k {T = T} other r (Err error) xs ys → Compares k {T = T} r other (Err error) xs ys
  compares_turned T r other TooMany xs ys a = a
  compares_turned T r other (Fault at) xs ys a = (turned a.0, a.1)
    where
      turned : (at ≡ other) ⊎ (at ≡ r) → (at ≡ r) ⊎ (at ≡ other)
      turned (inl e) = inr e
      turned (inr e) = inl e

  pub length_stays : (xs ys : List (Seat K D g h i)) → AllStay k xs ys → length ys ≡ length xs
  length_stays xs ys a = AllZip-long (SeatStays k) xs ys a
