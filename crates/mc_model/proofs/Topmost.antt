-- The topmost of a list of values with their blocks depends on its members alone.
use Rattle.std.proofs.Common.{◌≡◌, Bool, true, false, cond, ◌&&◌, List, [], ◌∷◌, ◌++◌, map, Option, Some, None, ◌||◌, sym, refl, ap, ◌∙◌, subst}
use Rattle.std.specs.Prelude.{nat_eq, fold, All, Contains, slice_index_or}
use Rattle.std.specs.List.{list_any}
use Rattle.std.specs.Cmp.{IsTotalOrder, Equal-is}
use Rattle.std.specs.Cmp.Lexicographic.{slice_cmp}
use Rattle.std.specs.Ordering.{is_lt, is_gt, is_eq, nat_cmp, ordering_reverse}
use Rattle.std.specs.declared.cmp.Ordering.{Ordering}
use Rattle.std.specs.declared.cmp.Ordering.TheVariants.{Less, Equal, Greater}
use Rattle.std.specs.FinMap.{nat_cmp-IsAntisymmetric, slice_cmp-IsAntisymmetric}
use Rattle.std.proofs.lemmas.Bool.{and_parts, eqb-true, eq-eqb, or_parts, or_right, or_from}
use Rattle.std.proofs.lemmas.Slice.Eq.{bytes_eq-Decides}
use Rattle.std.specs.Str.{bytes_eq}
use Rattle.std.proofs.lemmas.Cmp.{then_total, on_total, back_total, nat_cmp_total, nat_list_cmp_total, upto, tied_itself}
use Rattle.mc_base.specs.declared.cid.Cid.{Cid}
use Rattle.mc_model.specs.Rank.{Ranked, rank_cmp, same_ranked, greater, greatest}
use Rattle.mc_model.specs.Front.{same_cid}
use Rattle.mc_model.specs.Who.{Placed, placed_cmp, same_placed, higher, topmost}
use Rattle.mc_model.proofs.Counts.{cid_is}
use Rattle.mc_model.proofs.Greatest.{fold-append, rank_total, rank_tied, one_ranked, ranked_itself}
use Rattle.std.proofs.lemmas.List.Elements.{All-nil, All-cons}
use Rattle.std.proofs.lemmas.List.Folds.{Any-from_list_any}
use Rattle.mc_base.proofs.Orders.{then_equal}
use Rattle.mc_model.specs.SameMembers.{SameMembers}

pub placed_total : IsTotalOrder placed_cmp
placed_total =
    then_total (on_total (λ (p : Placed). p.0) rank_total) (on_total (λ (p : Placed). p.1.0) (back_total nat_list_cmp_total))

cid_same : (a b : Cid) → a.0 ≡ b.0 → a ≡ b
cid_same a b e = cid_is a b ((bytes_eq-Decides a.0 b.0).1 e)

pub placed_tied : (x y : Placed) → placed_cmp x y ≡ Equal → x ≡ y
placed_tied (r, c) (q, d) e =
    let parts = then_equal (rank_cmp r q) (slice_cmp nat_cmp d.0 c.0) e in
    let first : r ≡ q = rank_tied r q parts.0 in
    let second : c ≡ d = cid_same c d (sym (slice_cmp-IsAntisymmetric nat_cmp-IsAntisymmetric d.0 c.0 parts.1)) in
    λ i. (first i, second i)

turn_lt : (o p : Ordering) → o ≡ ordering_reverse p → is_gt o ≡ is_lt p
turn_lt o Less e = ap is_gt e
turn_lt o Equal e = ap is_gt e
turn_lt o Greater e = ap is_gt e

pub gt_lt : (x y : Placed) → is_gt (placed_cmp x y) ≡ is_lt (placed_cmp y x)
gt_lt x y = turn_lt (placed_cmp x y) (placed_cmp y x) (placed_total.antisymm x y)

pub not_gt_itself : (x : Placed) → is_gt (placed_cmp x x) ≡ false
not_gt_itself x = ap is_gt (tied_itself placed_total x)

lt_not_gt : (o : Ordering) → is_lt o ≡ true → is_gt o ≡ false
lt_not_gt Less e = refl
lt_not_gt Equal e = refl
lt_not_gt Greater e = absurd (cc)

-- nothing is above what a fold from b gives, nor is b
pub fold_bound : (xs : List Placed) (b m : Placed) → fold higher (Some b) xs ≡ Some m
    → (is_gt (placed_cmp b m) ≡ false) × (list_any (λ x. is_gt (placed_cmp x m)) xs ≡ false)
fold_bound [] b m e =
    let same : b ≡ m = cc in
    (subst (λ (z : Placed). is_gt (placed_cmp b z) ≡ false) same (not_gt_itself b), refl)
fold_bound (x ∷ xs) b m e =
    elim (is_lt (placed_cmp b x)) as (λ t. is_lt (placed_cmp b x) ≡ t → fold higher (cond t (Some x) (Some b)) xs ≡ Some m
    → (is_gt (placed_cmp b m) ≡ false) × (list_any (λ x. is_gt (placed_cmp x m)) (x ∷ xs) ≡ false)) [
      | true ↦ λ t h.
          let more = fold_bound xs x m h in
          (upto placed_total b x m (lt_not_gt (placed_cmp b x) t) more.0, or_from _ _ more.0 more.1)
      | false ↦ λ t h.
          let more = fold_bound xs b m h in
          (more.0, or_from _ _ (upto placed_total x b m (gt_lt x b ∙ t) more.0) more.1)
    ] refl e

-- what a fold from b gives is b or a member
fold_member : (xs : List Placed) (b m : Placed) → fold higher (Some b) xs ≡ Some m
    → (is_eq (placed_cmp m b) || list_any (λ x. is_eq (placed_cmp m x)) xs) ≡ true
fold_member [] b m e =
    let same : b ≡ m = cc in
    subst (λ (z : Placed). (is_eq (placed_cmp z b) || false) ≡ true) same (ap (λ o. is_eq o || false) (tied_itself placed_total b))
fold_member (x ∷ xs) b m e =
    elim (is_lt (placed_cmp b x)) as (λ t. fold higher (cond t (Some x) (Some b)) xs ≡ Some m
    → (is_eq (placed_cmp m b) || list_any (λ x. is_eq (placed_cmp m x)) (x ∷ xs)) ≡ true) [
      | true ↦ λ h. or_right (is_eq (placed_cmp m b)) _ (fold_member xs x m h)
      | false ↦ λ h. or_middle (is_eq (placed_cmp m b)) (is_eq (placed_cmp m x)) _ (fold_member xs b m h)
    ] e
  where
    or_middle : (a b c : Bool) → (a || c) ≡ true → (a || (b || c)) ≡ true
    or_middle true b c h = refl
    or_middle false true c h = refl
    or_middle false false c h = h

fold_some : (xs : List Placed) (b : Placed) → (m : Placed) × (fold higher (Some b) xs ≡ Some m)
fold_some [] b = (b, refl)
fold_some (x ∷ xs) b =
    elim (is_lt (placed_cmp b x)) as (λ t. (m : Placed) × (fold higher (cond t (Some x) (Some b)) xs ≡ Some m)) [ true ↦ fold_some xs x | false ↦ fold_some xs b ]

pub tied_gt : (xs : List Placed) (m n : Placed) → list_any (λ x. is_eq (placed_cmp m x)) xs ≡ true → list_any (λ x. is_gt (placed_cmp x n)) xs ≡ false → is_gt (placed_cmp m n) ≡ false
tied_gt [] m n e f = absurd (cc)
tied_gt (x ∷ xs) m n e f =
    let none : (is_gt (placed_cmp x n) ≡ false) × (list_any (λ x. is_gt (placed_cmp x n)) xs ≡ false) = or_parts (is_gt (placed_cmp x n)) (list_any (λ x. is_gt (placed_cmp x n)) xs) f in
    elim (placed_cmp m x) as (λ o. placed_cmp m x ≡ o → (is_eq o || list_any (λ x. is_eq (placed_cmp m x)) xs) ≡ true → is_gt (placed_cmp m n) ≡ false) [
      | Less ↦ λ t h. tied_gt xs m n h none.1
      | Equal ↦ λ t h. subst (λ (z : Placed). is_gt (placed_cmp z n) ≡ false) (sym (placed_tied m x t)) none.0
      | Greater ↦ λ t h. tied_gt xs m n h none.1
    ] refl e

neither_gt : (m n : Placed) → is_gt (placed_cmp m n) ≡ false → is_gt (placed_cmp n m) ≡ false → m ≡ n
neither_gt m n e f = placed_tied m n (only_equal (placed_cmp m n) e (sym (gt_lt n m) ∙ f))
  where
    only_equal : (o : Ordering) → is_gt o ≡ false → is_lt o ≡ false → o ≡ Equal
    only_equal Less e f = absurd (cc)
    only_equal Equal e f = refl
    only_equal Greater e f = absurd (cc)

pub topmost_same : (xs ys : List Placed) → SameMembers xs ys → topmost xs ≡ topmost ys
topmost_same [] [] h = refl
topmost_same [] (y ∷ ys) h = absurd (let e : false ≡ true = h.same (λ _. true) in cc)
topmost_same (x ∷ xs) [] h = absurd (let e : true ≡ false = h.same (λ _. true) in cc)
topmost_same (x ∷ xs) (y ∷ ys) h =
    let found = fold_some xs x in
    let found' = fold_some ys y in
    let m : Placed = found.0 in
    let n : Placed = found'.0 in
    let bound : list_any (λ z. is_gt (placed_cmp z m)) (x ∷ xs) ≡ false = let b = fold_bound xs x m found.1 in or_from _ _ b.0 b.1 in
    let bound' : list_any (λ z. is_gt (placed_cmp z n)) (y ∷ ys) ≡ false = let b = fold_bound ys y n found'.1 in or_from _ _ b.0 b.1 in
    let member : list_any (λ z. is_eq (placed_cmp m z)) (x ∷ xs) ≡ true = fold_member xs x m found.1 in
    let member' : list_any (λ z. is_eq (placed_cmp n z)) (y ∷ ys) ≡ true = fold_member ys y n found'.1 in
    let up : is_gt (placed_cmp m n) ≡ false = tied_gt (y ∷ ys) m n (sym (h.same (λ z. is_eq (placed_cmp m z))) ∙ member) bound' in
    let down : is_gt (placed_cmp n m) ≡ false = tied_gt (x ∷ xs) n m (h.same (λ z. is_eq (placed_cmp n z)) ∙ member') bound in
    let same : m ≡ n = neither_gt m n up down in
    found.1 ∙ ap (λ (z : Placed). Some z) same ∙ sym found'.1

pub topmost-append : (xs ys : List Placed) → topmost (xs ++ ys) ≡ fold higher (topmost xs) ys
topmost-append xs ys = fold-append higher None xs ys

-- where nothing is topmost there is nothing
pub topmost_none : (xs : List Placed) → topmost xs ≡ None → xs ≡ []
topmost_none [] e = refl
topmost_none (x ∷ xs) e = let found = fold_some xs x in absurd (let no : None ≡ Some found.0 = sym e ∙ found.1 in cc)

-- the order ties just what is one

tied_same : (m x : Placed) → is_eq (placed_cmp m x) ≡ same_placed m x
tied_same m x =
    elim (same_placed m x) as (λ t. same_placed m x ≡ t → is_eq (placed_cmp m x) ≡ t) [
      | true ↦ λ e. ap (λ (z : Placed). is_eq (placed_cmp m z)) (sym (same_one m x e)) ∙ ap is_eq (tied_itself placed_total m)
      | false ↦ λ e. apart (placed_cmp m x) (λ tied. absurd (let no : false ≡ true = sym e ∙ ap (same_placed m) (sym (placed_tied m x tied)) ∙ one_itself m in cc))
    ] refl
  where
    same_one : (m x : Placed) → same_placed m x ≡ true → m ≡ x
    same_one (r, c) (q, d) e =
        let parts = and_parts (same_ranked r q) (same_cid c d) e in
        let first : r ≡ q = one_ranked r q parts.0 in
        let second : c ≡ d = cid_is c d parts.1 in
        λ i. (first i, second i)

    one_itself : (m : Placed) → same_placed m m ≡ true
    one_itself (r, c) = ap (λ b. b && same_cid c c) (ranked_itself r) ∙ (bytes_eq-Decides c.0 c.0).1 refl

    apart : (o : Ordering) → (o ≡ Equal → is_eq o ≡ false) → is_eq o ≡ false
    apart Less h = refl
    apart Equal h = h refl
    apart Greater h = refl

pub tied_all : (m : Placed) (xs : List Placed) → list_any (λ x. is_eq (placed_cmp m x)) xs ≡ list_any (same_placed m) xs
tied_all m [] = refl
tied_all m (x ∷ xs) = ap (λ b. b || list_any (λ x. is_eq (placed_cmp m x)) xs) (tied_same m x) ∙ ap (λ b. same_placed m x || b) (tied_all m xs)

-- the topmost is one of the list
pub topmost_member : (xs : List Placed) (m : Placed) → topmost xs ≡ Some m → list_any (same_placed m) xs ≡ true
topmost_member [] m e = absurd (cc)
topmost_member (x ∷ xs) m e = sym (tied_all m (x ∷ xs)) ∙ fold_member xs x m e

-- what stays the topmost of fewer, where it is one of them
pub topmost_of_fewer : (xs ys : List Placed) (m : Placed) → topmost xs ≡ Some m → ((test : Placed → Bool) → list_any test xs ≡ false → list_any test ys ≡ false) → list_any (same_placed m) ys ≡ true
    → topmost ys ≡ Some m
topmost_of_fewer [] ys m e fewer there = absurd (cc)
topmost_of_fewer (x ∷ xs) [] m e fewer there = absurd (let no : false ≡ true = there in cc)
topmost_of_fewer (x ∷ xs) (y ∷ ys) m e fewer there =
    let found = fold_some ys y in
    let n : Placed = found.0 in
    let bound : list_any (λ z. is_gt (placed_cmp z m)) (y ∷ ys) ≡ false = fewer (λ z. is_gt (placed_cmp z m)) (let b = fold_bound xs x m e in or_from _ _ b.0 b.1) in
    let bound' : list_any (λ z. is_gt (placed_cmp z n)) (y ∷ ys) ≡ false = let b = fold_bound ys y n found.1 in or_from _ _ b.0 b.1 in
    let member : list_any (λ z. is_eq (placed_cmp m z)) (y ∷ ys) ≡ true = tied_all m (y ∷ ys) ∙ there in
    let member' : list_any (λ z. is_eq (placed_cmp n z)) (y ∷ ys) ≡ true = fold_member ys y n found.1 in
    found.1 ∙ ap (λ (z : Placed). Some z) (neither_gt n m (tied_gt (y ∷ ys) n m member' bound) (tied_gt (y ∷ ys) m n member bound'))

-- nothing is above the topmost
pub topmost_bound : (xs : List Placed) (m : Placed) → topmost xs ≡ Some m → list_any (λ x. is_gt (placed_cmp x m)) xs ≡ false
topmost_bound [] m e = refl
topmost_bound (x ∷ xs) m e = let b = fold_bound xs x m e in or_from _ _ b.0 b.1
