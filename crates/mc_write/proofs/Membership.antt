-- Members of lists, one by one.
use Rattle.std.proofs.Common.{◌≡◌, Bool, true, false, cond, ◌||◌, ◌&&◌, not, List, [], ◌∷◌, ◌++◌, map, Option, Some, None, ◌⊎◌, inl, inr, sym, refl, ap, ◌∙◌, subst}
use Rattle.std.specs.Prelude.{filter}
use Rattle.std.specs.List.{list_any, list_all, flat_map, filter_map, cons_option}
use Rattle.std.proofs.lemmas.Bool.{or_cases, or_right, or_left}
use Rattle.mc_model.specs.SameMembers.{SameMembers}

-- the item is one of the list
abbrev pub In : {X : Type 0} → X → List X → Type 0
In x [] = ⊥
In x (y ∷ ys) = (x ≡ y) ⊎ In x ys

-- one of the list that passes a test
pub record Passing {X : Type 0} (test : X → Bool) (xs : List X) : Type 0 where
  pub item : X
  pub within : In item xs
  pub passes : test item ≡ true

pub any_from_in : {X : Type 0} (test : X → Bool) (x : X) (xs : List X) → In x xs → test x ≡ true → list_any test xs ≡ true
any_from_in test x [] i e = absurd i
any_from_in test x (y ∷ ys) (inl same) e = or_left (test y) (list_any test ys) (ap test (sym same) ∙ e)
any_from_in test x (y ∷ ys) (inr i) e = or_right (test y) (list_any test ys) (any_from_in test x ys i e)

pub in_from_any : {X : Type 0} (test : X → Bool) (xs : List X) → list_any test xs ≡ true → Passing test xs
in_from_any test [] e = absurd (let f : false ≡ true = e in cc)
in_from_any test (x ∷ xs) e = elim (or_cases (test x) (list_any test xs) e) [
  | inl passes ↦ record { item = x; within = inl refl; passes = passes }
  | inr more ↦ let found = in_from_any test xs more in record { item = found.item; within = inr found.within; passes = found.passes }
]

-- two tests agree where each passes what the other does

-- lists with the same members have each other's, where equality can be tested
pub in_same : {X : Type 0} (equal : X → X → Bool) → ((x : X) → equal x x ≡ true) → ((x y : X) → equal x y ≡ true → x ≡ y) → (xs ys : List X) → SameMembers xs ys → (x : X) → In x xs → In x ys
in_same equal itself tied xs ys same x i =
    let found = in_from_any (equal x) ys (sym (same.same (equal x)) ∙ any_from_in (equal x) x xs i (itself x)) in
    subst (λ z. In z ys) (sym (tied x found.item found.passes)) found.within

pub in_map : {X Y : Type 0} (f : X → Y) (x : X) (xs : List X) → In x xs → In (f x) (map f xs)
in_map f x [] i = absurd i
in_map f x (y ∷ ys) (inl same) = inl (ap f same)
in_map f x (y ∷ ys) (inr i) = inr (in_map f x ys i)

-- what a mapped item is of
pub record Mapped {X Y : Type 0} (f : X → Y) (y : Y) (xs : List X) : Type 0 where
  pub item : X
  pub within : In item xs
  pub is : y ≡ f item

pub from_map : {X Y : Type 0} (f : X → Y) (y : Y) (xs : List X) → In y (map f xs) → Mapped f y xs
from_map f y [] i = absurd i
from_map f y (x ∷ xs) (inl same) = record { item = x; within = inl refl; is = same }
from_map f y (x ∷ xs) (inr i) = let found = from_map f y xs i in record { item = found.item; within = inr found.within; is = found.is }

pub in_filter : {X : Type 0} (test : X → Bool) (x : X) (xs : List X) → In x xs → test x ≡ true → In x (filter test xs)
in_filter test x [] i e = absurd i
in_filter test x (y ∷ ys) (inl same) e =
    subst (λ t. In x (cond t (y ∷ filter test ys) (filter test ys))) (sym (ap test (sym same) ∙ e)) (inl same)
in_filter test x (y ∷ ys) (inr i) e = elim (test y) as (λ t. In x (cond t (y ∷ filter test ys) (filter test ys))) [
  | true ↦ inr (in_filter test x ys i e)
  | false ↦ in_filter test x ys i e
]

pub from_filter : {X : Type 0} (test : X → Bool) (x : X) (xs : List X) → In x (filter test xs) → In x xs × (test x ≡ true)
from_filter test x [] i = absurd i
from_filter test x (y ∷ ys) i = (elim (test y) as (λ t. test y ≡ t → In x (cond t (y ∷ filter test ys) (filter test ys)) → In x (y ∷ ys) × (test x ≡ true)) [
  | true ↦ λ e j. elim j [
    | inl same ↦ (inl same, ap test same ∙ e)
    | inr k ↦ let more = from_filter test x ys k in (inr more.0, more.1)
  ]
  | false ↦ λ e j. let more = from_filter test x ys j in (inr more.0, more.1)
]) refl i

pub in_append_left : {X : Type 0} (x : X) (xs ys : List X) → In x xs → In x (xs ++ ys)
in_append_left x [] ys i = absurd i
in_append_left x (z ∷ xs) ys (inl same) = inl same
in_append_left x (z ∷ xs) ys (inr i) = inr (in_append_left x xs ys i)

pub in_append_right : {X : Type 0} (x : X) (xs ys : List X) → In x ys → In x (xs ++ ys)
in_append_right x [] ys i = i
in_append_right x (z ∷ xs) ys i = inr (in_append_right x xs ys i)

pub from_append : {X : Type 0} (x : X) (xs ys : List X) → In x (xs ++ ys) → In x xs ⊎ In x ys
from_append x [] ys i = inr i
from_append x (z ∷ xs) ys (inl same) = inl (inl same)
from_append x (z ∷ xs) ys (inr i) = elim (from_append x xs ys i) [ inl j ↦ inl (inr j) | inr j ↦ inr j ]

pub in_flat_map : {X Y : Type 0} (f : X → List Y) (x : X) (y : Y) (xs : List X) → In x xs → In y (f x) → In y (flat_map f xs)
in_flat_map f x y [] i j = absurd i
in_flat_map f x y (z ∷ xs) (inl same) j = in_append_left y (f z) (flat_map f xs) (subst (λ w. In y (f w)) same j)
in_flat_map f x y (z ∷ xs) (inr i) j = in_append_right y (f z) (flat_map f xs) (in_flat_map f x y xs i j)

-- the item whose list has it
pub record Within {X Y : Type 0} (f : X → List Y) (y : Y) (xs : List X) : Type 0 where
  pub item : X
  pub within : In item xs
  pub has : In y (f item)

pub from_flat_map : {X Y : Type 0} (f : X → List Y) (y : Y) (xs : List X) → In y (flat_map f xs) → Within f y xs
from_flat_map f y [] i = absurd i
from_flat_map f y (x ∷ xs) i = elim (from_append y (f x) (flat_map f xs) i) [
  | inl j ↦ record { item = x; within = inl refl; has = j }
  | inr j ↦ let found = from_flat_map f y xs j in record { item = found.item; within = inr found.within; has = found.has }
]

pub in_filter_map : {X Y : Type 0} (f : X → Option Y) (x : X) (y : Y) (xs : List X) → In x xs → f x ≡ Some y → In y (filter_map f xs)
in_filter_map f x y [] i e = absurd i
in_filter_map f x y (z ∷ xs) (inl same) e =
    subst (λ o. In y (cons_option o (filter_map f xs))) (sym (ap f (sym same) ∙ e)) (inl refl)
in_filter_map f x y (z ∷ xs) (inr i) e = elim (f z) as (λ o. In y (cons_option o (filter_map f xs))) [
  | None ↦ in_filter_map f x y xs i e
  | Some w ↦ inr (in_filter_map f x y xs i e)
]

-- the item that gives it
pub record Given {X Y : Type 0} (f : X → Option Y) (y : Y) (xs : List X) : Type 0 where
  pub item : X
  pub within : In item xs
  pub gives : f item ≡ Some y

pub from_filter_map : {X Y : Type 0} (f : X → Option Y) (y : Y) (xs : List X) → In y (filter_map f xs) → Given f y xs
from_filter_map f y [] i = absurd i
from_filter_map f y (x ∷ xs) i = (elim (f x) as (λ o. f x ≡ o → In y (cons_option o (filter_map f xs)) → Given f y (x ∷ xs)) [
  | None ↦ λ e j. let found = from_filter_map f y xs j in record { item = found.item; within = inr found.within; gives = found.gives }
  | Some w ↦ λ e j. elim j [
    | inl same ↦ record { item = x; within = inl refl; gives = e ∙ ap (λ z. Some z) (sym same) }
    | inr k ↦ let found = from_filter_map f y xs k in record { item = found.item; within = inr found.within; gives = found.gives }
  ]
]) refl i

turned : (a b : Bool) → (a && not b) ≡ not (not a || b)
turned true b = refl
turned false b = refl

all_any : {X : Type 0} (test : X → Bool) (zs : List X) → list_all test zs ≡ not (list_any (λ x. not (test x)) zs)
all_any test [] = refl
all_any test (z ∷ zs) = ap (λ rest. test z && rest) (all_any test zs) ∙ turned (test z) (list_any (λ x. not (test x)) zs)

-- a test that holds for all members of a list holds for all of one with the same members
pub all_same : {X : Type 0} (test : X → Bool) (xs ys : List X) → SameMembers xs ys → list_all test ys ≡ true → list_all test xs ≡ true
all_same test xs ys same e = all_any test xs ∙ ap not (same.same (λ x. not (test x))) ∙ sym (all_any test ys) ∙ e
