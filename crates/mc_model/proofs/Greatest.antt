-- The greatest of a list depends on its members alone.
use Rattle.std.proofs.Common.{◌≡◌, Bool, true, false, cond, ◌&&◌, List, [], ◌∷◌, ◌++◌, Some, None, ◌||◌, sym, refl, ap, ◌∙◌, subst}
use Rattle.std.specs.Prelude.{nat_eq, fold, All, Contains, slice_index_or}
use Rattle.std.specs.List.{list_any}
use Rattle.std.specs.Cmp.{IsTotalOrder, Equal-is}
use Rattle.std.specs.Cmp.Lexicographic.{slice_cmp}
use Rattle.std.specs.Ordering.{is_lt, is_gt, is_eq, nat_cmp, ordering_reverse}
use Rattle.std.specs.declared.cmp.Ordering.{Ordering}
use Rattle.std.specs.declared.cmp.Ordering.TheVariants.{Less, Equal, Greater}
use Rattle.std.specs.FinMap.{nat_cmp-IsAntisymmetric, slice_cmp-IsAntisymmetric}
use Rattle.std.proofs.lemmas.Bool.{and_parts, eqb-true, eq-eqb, or_parts, or_right, or_from}
use Rattle.std.proofs.lemmas.Slice.Eq.{bytes_eq-Decides}
use Rattle.std.specs.Str.{bytes_eq}
use Rattle.std.proofs.lemmas.Cmp.{then_total, on_total, nat_cmp_total, nat_list_cmp_total, upto, tied_itself}
use Rattle.mc_model.specs.Rank.{Ranked, rank_cmp, same_ranked, greater, greatest, IsGreatestOf}
use Rattle.std.proofs.lemmas.List.Elements.{All-nil, All-cons}
use Rattle.std.proofs.lemmas.List.Folds.{Any-from_list_any}
use Rattle.mc_base.proofs.Orders.{then_equal}
use Rattle.mc_model.specs.SameMembers.{SameMembers}

pub rank_total : IsTotalOrder rank_cmp
rank_total = then_total (on_total (λ (r : Ranked). r.0) nat_cmp_total) (on_total (λ (r : Ranked). r.1) nat_list_cmp_total)

pub rank_tied : (x y : Ranked) → rank_cmp x y ≡ Equal → x ≡ y
rank_tied (p, v) (q, w) e =
    let parts = then_equal (nat_cmp p q) (slice_cmp nat_cmp v w) e in
    let first : p ≡ q = nat_cmp-IsAntisymmetric p q parts.0 in
    let second : v ≡ w = slice_cmp-IsAntisymmetric nat_cmp-IsAntisymmetric v w parts.1 in
    cc

turn_lt : (o p : Ordering) → o ≡ ordering_reverse p → is_gt o ≡ is_lt p
turn_lt o Less e = ap is_gt e
turn_lt o Equal e = ap is_gt e
turn_lt o Greater e = ap is_gt e

pub gt_lt : (x y : Ranked) → is_gt (rank_cmp x y) ≡ is_lt (rank_cmp y x)
gt_lt x y = turn_lt (rank_cmp x y) (rank_cmp y x) (rank_total.antisymm x y)

pub not_gt_itself : (x : Ranked) → is_gt (rank_cmp x x) ≡ false
not_gt_itself x = ap is_gt (tied_itself rank_total x)

lt_not_gt : (o : Ordering) → is_lt o ≡ true → is_gt o ≡ false
lt_not_gt Less e = refl
lt_not_gt Equal e = refl
lt_not_gt Greater e = absurd (cc)

-- nothing is above what a fold from b gives, nor is b
fold_bound : (xs : List Ranked) (b m : Ranked) → fold greater (Some b) xs ≡ Some m
    → (is_gt (rank_cmp b m) ≡ false) × (list_any (λ x. is_gt (rank_cmp x m)) xs ≡ false)
fold_bound [] b m e =
    let same : b ≡ m = cc in
    (subst (λ (z : Ranked). is_gt (rank_cmp b z) ≡ false) same (not_gt_itself b), refl)
fold_bound (x ∷ xs) b m e =
    elim (is_lt (rank_cmp b x)) as (λ t. is_lt (rank_cmp b x) ≡ t → fold greater (cond t (Some x) (Some b)) xs ≡ Some m
    → (is_gt (rank_cmp b m) ≡ false) × (list_any (λ x. is_gt (rank_cmp x m)) (x ∷ xs) ≡ false)) [
      | true ↦ λ t h.
          let more = fold_bound xs x m h in
          (upto rank_total b x m (lt_not_gt (rank_cmp b x) t) more.0, or_from _ _ more.0 more.1)
      | false ↦ λ t h.
          let more = fold_bound xs b m h in
          (more.0, or_from _ _ (upto rank_total x b m (gt_lt x b ∙ t) more.0) more.1)
    ] refl e

-- what a fold from b gives is b or a member
fold_member : (xs : List Ranked) (b m : Ranked) → fold greater (Some b) xs ≡ Some m
    → (is_eq (rank_cmp m b) || list_any (λ x. is_eq (rank_cmp m x)) xs) ≡ true
fold_member [] b m e =
    let same : b ≡ m = cc in
    subst (λ (z : Ranked). (is_eq (rank_cmp z b) || false) ≡ true) same (ap (λ o. is_eq o || false) (tied_itself rank_total b))
fold_member (x ∷ xs) b m e =
    elim (is_lt (rank_cmp b x)) as (λ t. fold greater (cond t (Some x) (Some b)) xs ≡ Some m
    → (is_eq (rank_cmp m b) || list_any (λ x. is_eq (rank_cmp m x)) (x ∷ xs)) ≡ true) [
      | true ↦ λ h. or_right (is_eq (rank_cmp m b)) _ (fold_member xs x m h)
      | false ↦ λ h. or_middle (is_eq (rank_cmp m b)) (is_eq (rank_cmp m x)) _ (fold_member xs b m h)
    ] e
  where
    or_middle : (a b c : Bool) → (a || c) ≡ true → (a || (b || c)) ≡ true
    or_middle true b c h = refl
    or_middle false true c h = refl
    or_middle false false c h = h

fold_some : (xs : List Ranked) (b : Ranked) → (m : Ranked) × (fold greater (Some b) xs ≡ Some m)
fold_some [] b = (b, refl)
fold_some (x ∷ xs) b =
    elim (is_lt (rank_cmp b x)) as (λ t. (m : Ranked) × (fold greater (cond t (Some x) (Some b)) xs ≡ Some m)) [ true ↦ fold_some xs x | false ↦ fold_some xs b ]

tied_gt : (xs : List Ranked) (m n : Ranked) → list_any (λ x. is_eq (rank_cmp m x)) xs ≡ true → list_any (λ x. is_gt (rank_cmp x n)) xs ≡ false → is_gt (rank_cmp m n) ≡ false
tied_gt [] m n e f = absurd (cc)
tied_gt (x ∷ xs) m n e f =
    let none : (is_gt (rank_cmp x n) ≡ false) × (list_any (λ x. is_gt (rank_cmp x n)) xs ≡ false) = or_parts (is_gt (rank_cmp x n)) (list_any (λ x. is_gt (rank_cmp x n)) xs) f in
    elim (rank_cmp m x) as (λ o. rank_cmp m x ≡ o → (is_eq o || list_any (λ x. is_eq (rank_cmp m x)) xs) ≡ true → is_gt (rank_cmp m n) ≡ false) [
      | Less ↦ λ t h. tied_gt xs m n h none.1
      | Equal ↦ λ t h. subst (λ (z : Ranked). is_gt (rank_cmp z n) ≡ false) (sym (rank_tied m x t)) none.0
      | Greater ↦ λ t h. tied_gt xs m n h none.1
    ] refl e

neither_gt : (m n : Ranked) → is_gt (rank_cmp m n) ≡ false → is_gt (rank_cmp n m) ≡ false → m ≡ n
neither_gt m n e f = rank_tied m n (only_equal (rank_cmp m n) e (sym (gt_lt n m) ∙ f))
  where
    only_equal : (o : Ordering) → is_gt o ≡ false → is_lt o ≡ false → o ≡ Equal
    only_equal Less e f = absurd (cc)
    only_equal Equal e f = refl
    only_equal Greater e f = absurd (cc)

pub greatest_same : (xs ys : List Ranked) → SameMembers xs ys → greatest xs ≡ greatest ys
greatest_same [] [] h = refl
greatest_same [] (y ∷ ys) h = absurd (let e : false ≡ true = h.same (λ _. true) in cc)
greatest_same (x ∷ xs) [] h = absurd (let e : true ≡ false = h.same (λ _. true) in cc)
greatest_same (x ∷ xs) (y ∷ ys) h =
    let found = fold_some xs x in
    let found' = fold_some ys y in
    let m : Ranked = found.0 in
    let n : Ranked = found'.0 in
    let bound : list_any (λ z. is_gt (rank_cmp z m)) (x ∷ xs) ≡ false = let b = fold_bound xs x m found.1 in or_from _ _ b.0 b.1 in
    let bound' : list_any (λ z. is_gt (rank_cmp z n)) (y ∷ ys) ≡ false = let b = fold_bound ys y n found'.1 in or_from _ _ b.0 b.1 in
    let member : list_any (λ z. is_eq (rank_cmp m z)) (x ∷ xs) ≡ true = fold_member xs x m found.1 in
    let member' : list_any (λ z. is_eq (rank_cmp n z)) (y ∷ ys) ≡ true = fold_member ys y n found'.1 in
    let up : is_gt (rank_cmp m n) ≡ false = tied_gt (y ∷ ys) m n (sym (h.same (λ z. is_eq (rank_cmp m z))) ∙ member) bound' in
    let down : is_gt (rank_cmp n m) ≡ false = tied_gt (x ∷ xs) n m (h.same (λ z. is_eq (rank_cmp n z)) ∙ member') bound in
    let same : m ≡ n = neither_gt m n up down in
    found.1 ∙ ap (λ (z : Ranked). Some z) same ∙ sym found'.1

pub fold-append : {A B : Type 0} (f : B → A → B) (b : B) (xs ys : List A) → fold f b (xs ++ ys) ≡ fold f (fold f b xs) ys
fold-append f b [] ys = refl
fold-append f b (x ∷ xs) ys = fold-append f (f b x) xs ys

pub greatest-append : (xs ys : List Ranked) → greatest (xs ++ ys) ≡ fold greater (greatest xs) ys
greatest-append xs ys = fold-append greater None xs ys

-- none of the list is above, as a fact of each
none_above : (m : Ranked) (xs : List Ranked) → list_any (λ x. is_gt (rank_cmp x m)) xs ≡ false → All (λ x. is_gt (rank_cmp x m) ≡ false) xs
none_above m [] e = All-nil (λ (x : Ranked). is_gt (rank_cmp x m) ≡ false)
none_above m (x ∷ xs) e =
    let none = or_parts (is_gt (rank_cmp x m)) (list_any (λ x. is_gt (rank_cmp x m)) xs) e in
    All-cons (λ (x : Ranked). is_gt (rank_cmp x m) ≡ false) x xs none.0 (none_above m xs none.1)

-- what ties with a member is a member
tied_member : (m : Ranked) (xs : List Ranked) → list_any (λ x. is_eq (rank_cmp m x)) xs ≡ true → Contains xs m
tied_member m xs e =
    let found = Any-from_list_any (λ x. is_eq (rank_cmp m x)) xs e in
    let tied : rank_cmp m found.1 ≡ Equal = (Equal-is (rank_cmp m found.1)).0 found.4 in
    (found.0, found.2, subst (λ (z : Ranked). slice_index_or xs found.0 z ≡ z) (sym (rank_tied m found.1 tied)) found.3)

pub greatest_is_greatest : (ranked : List Ranked) → IsGreatestOf ranked (greatest ranked)
greatest_is_greatest [] = refl
greatest_is_greatest (x ∷ xs) =
    let found = fold_some xs x in
    let m : Ranked = found.0 in
    let bound = fold_bound xs x m found.1 in
    subst (IsGreatestOf (x ∷ xs)) (sym found.1) (record {
      member = tied_member m (x ∷ xs) (fold_member xs x m found.1);
      bound = none_above m (x ∷ xs) (or_from _ _ bound.0 bound.1);
    })

-- the order ties just what is one

pub one_ranked : (m x : Ranked) → same_ranked m x ≡ true → m ≡ x
one_ranked (p, v) (q, w) e =
    let parts = and_parts (nat_eq p q) (bytes_eq v w) e in
    let first : p ≡ q = eqb-true p q parts.0 in
    let second : v ≡ w = (bytes_eq-Decides v w).0 parts.1 in
    cc

pub ranked_itself : (m : Ranked) → same_ranked m m ≡ true
ranked_itself (p, v) = ap (λ b. b && bytes_eq v v) (eq-eqb p p refl) ∙ (bytes_eq-Decides v v).1 refl

tied_same : (m x : Ranked) → is_eq (rank_cmp m x) ≡ same_ranked m x
tied_same m x =
    elim (same_ranked m x) as (λ t. same_ranked m x ≡ t → is_eq (rank_cmp m x) ≡ t) [
      | true ↦ λ e. ap (λ (z : Ranked). is_eq (rank_cmp m z)) (sym (one_ranked m x e)) ∙ ap is_eq (tied_itself rank_total m)
      | false ↦ λ e. apart (rank_cmp m x) (λ tied. absurd (let no : false ≡ true = sym e ∙ ap (same_ranked m) (sym (rank_tied m x tied)) ∙ ranked_itself m in cc))
    ] refl
  where
    apart : (o : Ordering) → (o ≡ Equal → is_eq o ≡ false) → is_eq o ≡ false
    apart Less h = refl
    apart Equal h = h refl
    apart Greater h = refl

tied_all : (m : Ranked) (xs : List Ranked) → list_any (λ x. is_eq (rank_cmp m x)) xs ≡ list_any (same_ranked m) xs
tied_all m [] = refl
tied_all m (x ∷ xs) = ap (λ b. b || list_any (λ x. is_eq (rank_cmp m x)) xs) (tied_same m x) ∙ ap (λ b. same_ranked m x || b) (tied_all m xs)

-- the greatest is one of the list
pub greatest_member : (xs : List Ranked) (m : Ranked) → greatest xs ≡ Some m → list_any (same_ranked m) xs ≡ true
greatest_member [] m e = absurd (cc)
greatest_member (x ∷ xs) m e = sym (tied_all m (x ∷ xs)) ∙ fold_member xs x m e

-- what stays the greatest of fewer, where it is one of them
pub greatest_of_fewer : (xs ys : List Ranked) (m : Ranked) → greatest xs ≡ Some m → ((test : Ranked → Bool) → list_any test xs ≡ false → list_any test ys ≡ false) → list_any (same_ranked m) ys ≡ true
    → greatest ys ≡ Some m
greatest_of_fewer [] ys m e fewer there = absurd (cc)
greatest_of_fewer (x ∷ xs) [] m e fewer there = absurd (let no : false ≡ true = there in cc)
greatest_of_fewer (x ∷ xs) (y ∷ ys) m e fewer there =
    let found = fold_some ys y in
    let n : Ranked = found.0 in
    let bound : list_any (λ z. is_gt (rank_cmp z m)) (y ∷ ys) ≡ false = fewer (λ z. is_gt (rank_cmp z m)) (let b = fold_bound xs x m e in or_from _ _ b.0 b.1) in
    let bound' : list_any (λ z. is_gt (rank_cmp z n)) (y ∷ ys) ≡ false = let b = fold_bound ys y n found.1 in or_from _ _ b.0 b.1 in
    let member : list_any (λ z. is_eq (rank_cmp m z)) (y ∷ ys) ≡ true = tied_all m (y ∷ ys) ∙ there in
    let member' : list_any (λ z. is_eq (rank_cmp n z)) (y ∷ ys) ≡ true = fold_member ys y n found.1 in
    found.1 ∙ ap (λ (z : Ranked). Some z) (neither_gt n m (tied_gt (y ∷ ys) n m member' bound) (tied_gt (y ∷ ys) m n member bound'))
