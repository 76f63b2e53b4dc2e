-- A thing taken out of a list, and another put in its place.
use Rattle.std.proofs.Common.{◌≡◌, ◌≤◌, ◌<◌, ◌+◌, ℕ, zero, suc, Bool, true, false, true≢false, ◌&&◌, List, [], ◌∷◌, Some, refl, sym, ap, subst, ◌∙◌, inl, inr, ◌⊎◌, set, length, arith}
use Rattle.std.specs.Prelude.{◌-◌, ◌^◌, is_some, unwrap_or}
use Rattle.std.specs.List.{insert, remove, slice_get, sum_by, list_all}
use Rattle.std.proofs.lemmas.List.{length-set}
use Rattle.std.proofs.lemmas.List.Sums.{get_or-le-sum_by, sum_by-set}
use Rattle.std.proofs.lemmas.Option.{get_or_from_slice_get, slice_get_within}
use Rattle.mc_seats.specs.Desked.{is_desked}
use Rattle.mc_seats.specs.Keepers.{IsPaid}

pub insert_removed : {A : Type 0} (xs : List A) (at : ℕ) (y : A) → at < length xs → insert (remove xs at) at y ≡ set xs at y
insert_removed [] at y within = absurd (omega (arith, within))
insert_removed (x ∷ xs) zero y within = refl
insert_removed (x ∷ xs) (suc at) y within = ap (λ l. x ∷ l) (insert_removed xs at y (omega (arith, within)))

pub get_of_set : {A : Type 0} (xs : List A) (r : ℕ) (x y : A) → slice_get xs r ≡ Some x → slice_get (set xs r y) r ≡ Some y
get_of_set [] r x y is = absurd (true≢false (sym (ap is_some is)))
get_of_set (z ∷ xs) zero x y is = refl
get_of_set (z ∷ xs) (suc r) x y is = get_of_set xs r x y is

pub set_of_get : {A : Type 0} (xs : List A) (r : ℕ) (x : A) → slice_get xs r ≡ Some x → set xs r x ≡ xs
set_of_get [] r x is = refl
set_of_get (z ∷ xs) zero x is = ap (λ y. y ∷ xs) (sym (ap (λ o. unwrap_or o z) is))
set_of_get (z ∷ xs) (suc r) x is = ap (λ l. z ∷ l) (set_of_get xs r x is)

-- what a taking out and a putting in make
pub replaced : {A : Type 0} (xs mid news : List A) (r : ℕ) (x y : A) → slice_get xs r ≡ Some x → mid ≡ remove xs r → news ≡ insert mid r y → news ≡ set xs r y
replaced xs mid news r x y stands out back = back ∙ ap (λ l. insert l r y) out ∙ insert_removed xs r y (slice_get_within xs r x stands)

pub same_length : {A : Type 0} (xs mid news : List A) (r : ℕ) (x y : A) → slice_get xs r ≡ Some x → mid ≡ remove xs r → news ≡ insert mid r y → length xs ≡ length news
same_length xs mid news r x y stands out back = sym (ap length (replaced xs mid news r x y stands out back) ∙ length-set xs r y)

-- as many desks and as much room serve as many replicas
pub still_desked : {D : Type 0} (n m : ℕ) (desks : List (List D)) → n ≡ m → is_desked n desks ≡ true → is_desked m desks ≡ true
still_desked n m desks same is = subst (λ (c : ℕ). is_desked c desks ≡ true) same is

pub still_roomy : (n m capacity : ℕ) → n ≡ m → n ≤ capacity → m ≤ capacity
still_roomy n m capacity same fits = subst (λ (c : ℕ). c ≤ capacity) same fits

-- sums of counts, where one thing is changed
pub paid_of_set : {A : Type 0} (f armed : A → ℕ) (faults arms : ℕ) (xs : List A) (r : ℕ) (x y : A) → slice_get xs r ≡ Some x → IsPaid faults arms (f x) (armed x) (f y) (armed y) → IsPaid faults arms (sum_by f xs) (sum_by armed xs) (sum_by f (set xs r y)) (sum_by armed (set xs r y))
paid_of_set f armed faults arms xs r x y stands goes =
    let within = slice_get_within xs r x stands in
    let same = ap f (get_or_from_slice_get xs r x x stands) in
    let same_armed = ap armed (get_or_from_slice_get xs r x x stands) in
    let sum = sum_by-set f xs r y x within in
    let sum_armed = sum_by-set armed xs r y x within in
    let part = get_or-le-sum_by f xs r x within in
    let part_armed = get_or-le-sum_by armed xs r x within in
    let later = goes.later in
    record {
      later = omega (arith, sum, part, same, later);
      paid = elim goes.paid as (λ _. (sum_by f xs + faults + sum_by armed (set xs r y) ≤ sum_by f (set xs r y) + sum_by armed xs + arms) ⊎ (2 ^ 64 - 1 ≤ sum_by f (set xs r y))) [
        | inl paid ↦ inl (omega (arith, sum, part, same, sum_armed, part_armed, same_armed, paid))
        | inr full ↦ inr (omega (arith, sum, part, same, full))
      ];
    }

-- nothing is counted
pub paid_none : (arms count armed : ℕ) → IsPaid 0 arms count armed count armed
paid_none arms count armed = record { later = omega arith; paid = inl (omega arith) }

-- what pays a fault pays none
pub fewer : (faults arms before armed now armed_now : ℕ) → IsPaid faults arms before armed now armed_now → IsPaid 0 arms before armed now armed_now
fewer faults arms before armed now armed_now goes = record {
  later = goes.later;
  paid = elim goes.paid as (λ _. (before + 0 + armed_now ≤ now + armed + arms) ⊎ (2 ^ 64 - 1 ≤ now)) [
    | inl paid ↦ inl (omega (arith, paid))
    | inr full ↦ inr full
  ];
}

-- another count stands still beside it
pub paid_beside : (faults arms before armed now armed_now still : ℕ) → IsPaid faults arms before armed now armed_now → IsPaid faults arms (before + still) armed (now + still) armed_now
paid_beside faults arms before armed now armed_now still goes =
    let later = goes.later in
    record {
      later = omega (arith, later);
      paid = elim goes.paid as (λ _. (before + still + faults + armed_now ≤ now + still + armed + arms) ⊎ (2 ^ 64 - 1 ≤ now + still)) [
        | inl paid ↦ inl (omega (arith, paid))
        | inr full ↦ inr (omega (arith, full))
      ];
    }

-- both tests pass
pub first : (a b : Bool) → (a && b) ≡ true → a ≡ true
first true b is = refl
first false b is = is

pub rest : (a b : Bool) → (a && b) ≡ true → b ≡ true
rest true b is = is
rest false b is = absurd (true≢false (sym is))

pub both : (a b : Bool) → a ≡ true → b ≡ true → (a && b) ≡ true
both true b p q = q
both false b p q = absurd (true≢false (sym p))

-- a test that passes for one thing, and for the one in its place
pub all_of_set : {A : Type 0} (test : A → Bool) (xs : List A) (r : ℕ) (x y : A) → slice_get xs r ≡ Some x → (test x ≡ true → test y ≡ true) → list_all test xs ≡ true → list_all test (set xs r y) ≡ true
all_of_set test [] r x y stands keeps all = all
all_of_set test (z ∷ xs) zero x y stands keeps all = both (test y) (list_all test xs) (keeps (subst (λ a. test a ≡ true) (ap (λ o. unwrap_or o z) stands) (first (test z) (list_all test xs) all))) (rest (test z) (list_all test xs) all)
all_of_set test (z ∷ xs) (suc r) x y stands keeps all = both (test z) (list_all test (set xs r y)) (first (test z) (list_all test xs) all) (all_of_set test xs r x y stands keeps (rest (test z) (list_all test xs) all))
