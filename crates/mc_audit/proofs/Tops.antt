-- The first of each key, of rows in the order of tops.
use Rattle.std.proofs.Common.{◌≡◌, ℕ, Bool, true, false, cond, List, [], ◌∷◌, map, ◌||◌, Option, Some, ◌⊎◌, inl, inr, sym, refl, ap, ◌∙◌, subst}
use Rattle.std.specs.Prelude.{filter, find, fold, is_some}
use Rattle.std.specs.List.{list_any, dedup_from, AllByRecursion}
use Rattle.std.specs.List.Sorted.{IsStrictlySortedBy}
use Rattle.std.specs.Option.{option_map}
use Rattle.std.specs.Ordering.{nat_cmp, is_lt, ordering_then, ordering_reverse}
use Rattle.std.specs.Cmp.Lexicographic.{slice_cmp}
use Rattle.std.specs.Str.{bytes_eq}
use Rattle.std.specs.declared.cmp.Ordering.{Ordering}
use Rattle.std.specs.declared.cmp.Ordering.TheVariants.{Less, Equal, Greater}
use Rattle.std.specs.FinMap.{nat_cmp-IsAntisymmetric}
use Rattle.std.proofs.lemmas.Cmp.{nat_list_cmp_total, tied_itself}
use Rattle.std.proofs.lemmas.Map.Lookups.{exact_bytes}
use Rattle.std.proofs.lemmas.Slice.Eq.{bytes_eq-Decides}
use Rattle.mc_base.proofs.Orders.{then_equal}
use Rattle.mc_raw.specs.declared.raw.Row.{Row}
use Rattle.mc_model.specs.Rank.{Ranked, rank_cmp, greater, greatest}
use Rattle.mc_model.specs.Who.{Placed, placed_cmp, higher, topmost}
use Rattle.mc_audit.specs.Values.{top_cmp, same_key, tops_in}
use Rattle.mc_model.proofs.Topmost.{placed_total}

-- a row of the key
abbrev pub is_key : List ℕ → Row → Bool
is_key key row = bytes_eq row.a key

abbrev pub rank_of : Row → Ranked
rank_of row = (row.n, row.c)

-- with the block of an element's row
abbrev pub placed_row : Row → Placed
placed_row row = ((row.n, row.c), record { 0 = row.b })

pub top_tied : (x y : Row) → top_cmp x y ≡ Equal → x ≡ y
top_tied x y e =
    let last = then_equal _ (slice_cmp nat_cmp x.b y.b) e in
    let third = then_equal _ (slice_cmp nat_cmp y.c x.c) last.0 in
    let first = then_equal (slice_cmp nat_cmp x.a y.a) (nat_cmp y.n x.n) third.0 in
    let a : x.a ≡ y.a = exact_bytes x.a y.a first.0 in
    let b : x.b ≡ y.b = exact_bytes x.b y.b last.1 in
    let c : x.c ≡ y.c = sym (exact_bytes y.c x.c third.1) in
    let n : x.n ≡ y.n = sym (nat_cmp-IsAntisymmetric y.n x.n first.1) in
    λ i. record { a = a i; b = b i; c = c i; n = n i }

-- the rows of a key begin at the first of it
find_from : (key : List ℕ) (x : Row) (xs : List Row) → find (is_key key) (dedup_from same_key x xs) ≡ find (is_key key) (x ∷ xs)
find_from key x [] = refl
find_from key x (y ∷ ys) =
    elim (same_key y x) as (λ t. same_key y x ≡ t → find (is_key key) (cond t (dedup_from same_key x ys) (x ∷ dedup_from same_key y ys)) ≡ find (is_key key) (x ∷ y ∷ ys)) [
      | true ↦ λ e. find_from key x ys ∙ skipped (is_key key x) (is_key key y) (ap (λ (a : List ℕ). bytes_eq a key) ((bytes_eq-Decides y.a x.a).0 e))
      | false ↦ λ e. ap (λ rest. cond (is_key key x) (Some x) rest) (find_from key y ys)
    ] refl
  where
    skipped : (p q : Bool) → q ≡ p → cond p (Some x) (find (is_key key) ys) ≡ cond p (Some x) (cond q (Some y) (find (is_key key) ys))
    skipped true q e = refl
    skipped false q e = ap (λ t. cond t (Some y) (find (is_key key) ys)) (sym e)

pub find_tops : (key : List ℕ) (rows : List Row) → find (is_key key) (tops_in rows) ≡ find (is_key key) rows
find_tops key [] = refl
find_tops key (x ∷ xs) = find_from key x xs

-- of rows of one key those that stand later are not higher
not_higher : (x y : Row) → x.a ≡ y.a → top_cmp x y ≡ Less → is_lt (placed_cmp (placed_row x) (placed_row y)) ≡ false
not_higher x y same less =
    let own : slice_cmp nat_cmp x.a y.a ≡ Equal = ap (slice_cmp nat_cmp x.a) (sym same) ∙ tied_itself nat_list_cmp_total x.a in
    let turned : placed_cmp (placed_row y) (placed_row x) ≡ Less =
    sym (ap (λ o. ordering_then (ordering_then (ordering_then o (nat_cmp y.n x.n)) (slice_cmp nat_cmp y.c x.c)) (slice_cmp nat_cmp x.b y.b)) own) ∙ less in
    ap is_lt (placed_total.antisymm (placed_row x) (placed_row y)) ∙ ap (λ o. is_lt (ordering_reverse o)) turned

no_rank_higher : (x y : Row) → x.a ≡ y.a → top_cmp x y ≡ Less → is_lt (rank_cmp (rank_of x) (rank_of y)) ≡ false
no_rank_higher x y same less = first_part (rank_cmp (rank_of x) (rank_of y)) (slice_cmp nat_cmp y.b x.b) (not_higher x y same less)
  where
    first_part : (o p : Ordering) → is_lt (ordering_then o p) ≡ false → is_lt o ≡ false
    first_part Less p e = e
    first_part Equal p e = refl
    first_part Greater p e = refl

abbrev Below : Row → List Row → Type 0
Below x ys = AllByRecursion (λ y. top_cmp x y ≡ Less) ys

stays_top : (key : List ℕ) (x : Row) (xs : List Row) → x.a ≡ key → Below x xs → fold higher (Some (placed_row x)) (map placed_row (filter (is_key key) xs)) ≡ Some (placed_row x)
stays_top key x [] own below = refl
stays_top key x (y ∷ ys) own below =
    elim (is_key key y) as (λ t. is_key key y ≡ t → fold higher (Some (placed_row x)) (map placed_row (cond t (y ∷ filter (is_key key) ys) (filter (is_key key) ys))) ≡ Some (placed_row x)) [
      | true ↦ λ e.
          ap (λ t. fold higher (cond t (Some (placed_row y)) (Some (placed_row x))) (map placed_row (filter (is_key key) ys)))
          (not_higher x y (own ∙ sym ((bytes_eq-Decides y.a key).0 e)) below.0)
          ∙ stays_top key x ys own below.1
      | false ↦ λ e. stays_top key x ys own below.1
    ] refl

stays_greatest : (key : List ℕ) (x : Row) (xs : List Row) → x.a ≡ key → Below x xs → fold greater (Some (rank_of x)) (map rank_of (filter (is_key key) xs)) ≡ Some (rank_of x)
stays_greatest key x [] own below = refl
stays_greatest key x (y ∷ ys) own below =
    elim (is_key key y) as (λ t. is_key key y ≡ t → fold greater (Some (rank_of x)) (map rank_of (cond t (y ∷ filter (is_key key) ys) (filter (is_key key) ys))) ≡ Some (rank_of x)) [
      | true ↦ λ e.
          ap (λ t. fold greater (cond t (Some (rank_of y)) (Some (rank_of x))) (map rank_of (filter (is_key key) ys)))
          (no_rank_higher x y (own ∙ sym ((bytes_eq-Decides y.a key).0 e)) below.0)
          ∙ stays_greatest key x ys own below.1
      | false ↦ λ e. stays_greatest key x ys own below.1
    ] refl

-- the first row of a key is its topmost
pub first_is_topmost : (key : List ℕ) (rows : List Row) → IsStrictlySortedBy top_cmp rows → topmost (map placed_row (filter (is_key key) rows)) ≡ option_map placed_row (find (is_key key) rows)
unfolding IsStrictlySortedBy
first_is_topmost key [] sorted = refl
first_is_topmost key (x ∷ xs) sorted =
    elim (is_key key x) as (λ t. is_key key x ≡ t → topmost (map placed_row (cond t (x ∷ filter (is_key key) xs) (filter (is_key key) xs))) ≡ option_map placed_row (cond t (Some x) (find (is_key key) xs))) [
      | true ↦ λ e. stays_top key x xs ((bytes_eq-Decides x.a key).0 e) sorted.0
      | false ↦ λ e. first_is_topmost key xs sorted.1
    ] refl

pub first_is_greatest : (key : List ℕ) (rows : List Row) → IsStrictlySortedBy top_cmp rows → greatest (map rank_of (filter (is_key key) rows)) ≡ option_map rank_of (find (is_key key) rows)
unfolding IsStrictlySortedBy
first_is_greatest key [] sorted = refl
first_is_greatest key (x ∷ xs) sorted =
    elim (is_key key x) as (λ t. is_key key x ≡ t → greatest (map rank_of (cond t (x ∷ filter (is_key key) xs) (filter (is_key key) xs))) ≡ option_map rank_of (cond t (Some x) (find (is_key key) xs))) [
      | true ↦ λ e. stays_greatest key x xs ((bytes_eq-Decides x.a key).0 e) sorted.0
      | false ↦ λ e. first_is_greatest key xs sorted.1
    ] refl

-- the keys of the tops ascend

key_part : (o n c b : Ordering) → ordering_then (ordering_then (ordering_then o n) c) b ≡ Less → (o ≡ Less) ⊎ (o ≡ Equal)
key_part Less n c b e = inl refl
key_part Equal n c b e = inr refl
key_part Greater n c b e = absurd (let f : Greater ≡ Less = e in cc)

key_below : (x y : Row) → top_cmp x y ≡ Less → (slice_cmp nat_cmp x.a y.a ≡ Less) ⊎ (x.a ≡ y.a)
key_below x y e = elim (key_part (slice_cmp nat_cmp x.a y.a) (nat_cmp y.n x.n) (slice_cmp nat_cmp y.c x.c) (slice_cmp nat_cmp x.b y.b) e) [
  | inl less ↦ inl less
  | inr tied ↦ inr (exact_bytes x.a y.a tied)
]

up_to : (key : List ℕ) (x y : Row) → slice_cmp nat_cmp key x.a ≡ Less → top_cmp x y ≡ Less → slice_cmp nat_cmp key y.a ≡ Less
up_to key x y low e = elim (key_below x y e) [
  | inl less ↦ nat_list_cmp_total.trans key x.a y.a low less
  | inr same ↦ subst (λ (a : List ℕ). slice_cmp nat_cmp key a ≡ Less) same low
]

abbrev pub keys_in : List Row → List (List ℕ)
keys_in rows = map (λ (row : Row). row.a) rows

abbrev KeysOver : List ℕ → List (List ℕ) → Type 0
KeysOver key keys = AllByRecursion (λ (other : List ℕ). slice_cmp nat_cmp key other ≡ Less) keys

over_tops : (key : List ℕ) (x : Row) (xs : List Row) → slice_cmp nat_cmp key x.a ≡ Less → IsStrictlySortedBy top_cmp (x ∷ xs) → KeysOver key (keys_in (dedup_from same_key x xs))
unfolding IsStrictlySortedBy
over_tops key x [] low sorted = (low, tt {0})
over_tops key x (y ∷ ys) low sorted =
    elim (same_key y x) as (λ t. KeysOver key (keys_in (cond t (dedup_from same_key x ys) (x ∷ dedup_from same_key y ys)))) [
      | true ↦ over_tops key x ys low (sorted.0.1, sorted.1.1)
      | false ↦ (low, over_tops key y ys (up_to key x y low sorted.0.0) sorted.1)
    ]

keys_from : (x : Row) (xs : List Row) → IsStrictlySortedBy top_cmp (x ∷ xs) → IsStrictlySortedBy (slice_cmp nat_cmp) (keys_in (dedup_from same_key x xs))
unfolding IsStrictlySortedBy
keys_from x [] sorted = (tt {0}, tt {0})
keys_from x (y ∷ ys) sorted =
    elim (same_key y x) as (λ t. same_key y x ≡ t → IsStrictlySortedBy (slice_cmp nat_cmp) (keys_in (cond t (dedup_from same_key x ys) (x ∷ dedup_from same_key y ys)))) [
      | true ↦ λ e. keys_from x ys (sorted.0.1, sorted.1.1)
      | false ↦ λ e. elim (key_below x y sorted.0.0) [
        | inl less ↦ (over_tops x.a y ys less sorted.1, keys_from y ys sorted.1)
        | inr same ↦ absurd (let f : true ≡ false = sym ((bytes_eq-Decides y.a x.a).1 (sym same)) ∙ e in cc)
      ]
    ] refl

pub tops_sorted : (rows : List Row) → IsStrictlySortedBy top_cmp rows → IsStrictlySortedBy (slice_cmp nat_cmp) (keys_in (tops_in rows))
unfolding IsStrictlySortedBy
tops_sorted [] sorted = tt {0}
tops_sorted (x ∷ xs) sorted = keys_from x xs sorted

-- each top is the row that its key finds

abbrev pub OwnIn : List Row → List Row → Type 0
OwnIn rows tops = AllByRecursion (λ (top : Row). find (is_key top.a) rows ≡ Some top) tops

past : (x : Row) (rows tops : List Row) → KeysOver x.a (keys_in tops) → OwnIn rows tops → OwnIn (x ∷ rows) tops
past x rows [] over own = tt {0}
past x rows (top ∷ tops) over own = (
  ap (λ t. cond t (Some x) (find (is_key top.a) rows)) (apart (bytes_eq x.a top.a) (bytes_eq-Decides x.a top.a).0) ∙ own.0,
  past x rows tops over.1 own.1,
)
  where
    apart : (b : Bool) → (b ≡ true → x.a ≡ top.a) → b ≡ false
    apart true same = absurd (let f : Equal ≡ Less = sym (tied_itself nat_list_cmp_total x.a) ∙ ap (slice_cmp nat_cmp x.a) (same refl) ∙ over.0 in cc)
    apart false same = refl

pub own_tops : (tops : List Row) → IsStrictlySortedBy (slice_cmp nat_cmp) (keys_in tops) → OwnIn tops tops
unfolding IsStrictlySortedBy
own_tops [] sorted = tt {0}
own_tops (x ∷ tops) sorted = (
  ap (λ t. cond t (Some x) (find (is_key x.a) tops)) ((bytes_eq-Decides x.a x.a).1 refl),
  past x tops tops sorted.0 (own_tops tops sorted.1),
)

-- what its key finds makes the row that it makes
pub made_of : (line : List ℕ → Option Row → Row) (made : Row → Row) (rows tops : List Row) → ((row : Row) → made row ≡ line row.a (Some row)) → OwnIn rows tops
    → map made tops ≡ map (λ key. line key (find (is_key key) rows)) (keys_in tops)
made_of line made rows [] is own = refl
made_of line made rows (top ∷ tops) is own =
    ap (λ row. row ∷ map made tops) (is top ∙ ap (line top.a) (sym own.0)) ∙ ap (λ rest. line top.a (find (is_key top.a) rows) ∷ rest) (made_of line made rows tops is own.1)

pub any_find : {X : Type 0} (test : X → Bool) (xs : List X) → list_any test xs ≡ is_some (find test xs)
any_find test [] = refl
any_find test (x ∷ xs) = elim (test x) as (λ t. (t || list_any test xs) ≡ is_some (cond t (Some x) (find test xs))) [ true ↦ refl | false ↦ any_find test xs ]
