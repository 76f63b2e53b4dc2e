-- Lists with the same members stay so under maps that look at each member alone.
use Rattle.std.proofs.Common.{◌≡◌, Bool, List, [], ◌∷◌, ◌++◌, map, ◌||◌, ◌&&◌, true, false, cond, sym, refl, ap, ◌∙◌}
use Rattle.std.specs.Prelude.{filter}
use Rattle.std.specs.List.{list_any, flat_map}
use Rattle.std.proofs.lemmas.List.Folds.{list_any-append}
use Rattle.mc_model.specs.SameMembers.{SameMembers}

pub list_any-flat_map : {A B : Type 0} (test : B → Bool) (f : A → List B) (xs : List A) → list_any test (flat_map f xs) ≡ list_any (λ x. list_any test (f x)) xs
list_any-flat_map test f [] = refl
list_any-flat_map test f (x ∷ xs) = list_any-append test (f x) (flat_map f xs) ∙ ap (λ rest. list_any test (f x) || rest) (list_any-flat_map test f xs)

pub list_any-map : {A B : Type 0} (test : B → Bool) (f : A → B) (xs : List A) → list_any test (map f xs) ≡ list_any (λ x. test (f x)) xs
list_any-map test f [] = refl
list_any-map test f (x ∷ xs) = ap (λ rest. test (f x) || rest) (list_any-map test f xs)

pub list_any-filter : {A : Type 0} (test keep : A → Bool) (xs : List A) → list_any test (filter keep xs) ≡ list_any (λ x. keep x && test x) xs
list_any-filter test keep [] = refl
list_any-filter test keep (x ∷ xs) =
    elim (keep x) as (λ t. list_any test (cond t (x ∷ filter keep xs) (filter keep xs)) ≡ ((t && test x) || list_any (λ x. keep x && test x) xs)) [
      | true ↦ ap (λ rest. test x || rest) (list_any-filter test keep xs)
      | false ↦ list_any-filter test keep xs
    ]

pub same_flat_map : {A B : Type 0} (f : A → List B) (xs ys : List A) → SameMembers xs ys → SameMembers (flat_map f xs) (flat_map f ys)
same_flat_map f xs ys same = record { same = λ test. list_any-flat_map test f xs ∙ same.same (λ x. list_any test (f x)) ∙ sym (list_any-flat_map test f ys) }

pub same_filter : {A : Type 0} (keep : A → Bool) (xs ys : List A) → SameMembers xs ys → SameMembers (filter keep xs) (filter keep ys)
same_filter keep xs ys same = record { same = λ test. list_any-filter test keep xs ∙ same.same (λ x. keep x && test x) ∙ sym (list_any-filter test keep ys) }

-- the same members after the same list
pub same_append : {A : Type 0} (front xs ys : List A) → SameMembers xs ys → SameMembers (front ++ xs) (front ++ ys)
same_append front xs ys same = record {
  same = λ test. list_any-append test front xs ∙ ap (λ rest. list_any test front || rest) (same.same test) ∙ sym (list_any-append test front ys);
}

-- tests that agree pass in the same lists
pub any_agree : {A : Type 0} (p q : A → Bool) → ((x : A) → p x ≡ q x) → (xs : List A) → list_any p xs ≡ list_any q xs
any_agree p q same [] = refl
any_agree p q same (x ∷ xs) = ap (λ z. z || list_any p xs) (same x) ∙ ap (λ rest. q x || rest) (any_agree p q same xs)

pub none_passes : {A : Type 0} (xs : List A) → list_any (λ _. false) xs ≡ false
none_passes [] = refl
none_passes (x ∷ xs) = none_passes xs
