-- Rows that were sorted and rid of repeats ascend over the same members.
use Rattle.std.proofs.Common.{◌≡◌, Bool, true, false, cond, ◌||◌, List, [], ◌∷◌, sym, refl, ap, ◌∙◌, subst}
use Rattle.std.specs.List.{list_any, dedup, dedup_from}
use Rattle.std.specs.List.Sorted.{IsSorted, IsPermutation}
use Rattle.std.specs.Cmp.{IsTotalOrder, Equal-is}
use Rattle.std.specs.Ordering.{eq_by_cmp}
use Rattle.std.specs.declared.cmp.Ordering.{Ordering}
use Rattle.std.specs.declared.cmp.Ordering.TheVariants.{Equal}
use Rattle.std.proofs.lemmas.List.Kept.{IsStrictlySortedBy-dedup}
use Rattle.std.proofs.lemmas.List.Sorted.{list_any-IsPermutation}
use Rattle.std.proofs.Math.Bool.{or_self_left}
use Rattle.mc_model.specs.Ascending.{Ascends}

module _ {X : Type 0} (cmp : X → X → Ordering) (total : IsTotalOrder cmp) (tied : (x y : X) → cmp x y ≡ Equal → x ≡ y) where
  any_dedup : (test : X → Bool) (x : X) (xs : List X) → list_any test (dedup_from (eq_by_cmp cmp) x xs) ≡ (test x || list_any test xs)
  any_dedup test x [] = refl
  any_dedup test x (y ∷ ys) =
      elim (eq_by_cmp cmp y x) as (λ b. eq_by_cmp cmp y x ≡ b → list_any test (cond b (dedup_from (eq_by_cmp cmp) x ys) (x ∷ dedup_from (eq_by_cmp cmp) y ys)) ≡ (test x || (test y || list_any test ys))) [
        | true ↦ λ e. any_dedup test x ys ∙ subst (λ z. (test x || list_any test ys) ≡ (test x || (test z || list_any test ys))) (sym (tied y x ((Equal-is (cmp y x)).0 e))) (sym (or_self_left (test x) (list_any test ys)))
        | false ↦ λ e. ap (λ rest. test x || rest) (any_dedup test y ys)
      ] refl

  any_of_dedup : (test : X → Bool) (xs : List X) → list_any test (dedup (eq_by_cmp cmp) xs) ≡ list_any test xs
  any_of_dedup test [] = refl
  any_of_dedup test (x ∷ xs) = any_dedup test x xs

  pub sorted_once : (items sorted : List X) → IsPermutation items sorted → IsSorted cmp sorted → Ascends cmp (dedup (eq_by_cmp cmp) sorted) items
  sorted_once items sorted moved order = record {
    sorted = IsStrictlySortedBy-dedup total (λ x y. refl) sorted order;
    members = record { same = λ test. any_of_dedup test sorted ∙ sym (list_any-IsPermutation test items sorted moved) };
  }
